use Rattle.std.proofs.Common.{◌∙◌}
use Rattle.sstable_blocks.specs.Bits.{HasBit}
use Rattle.sstable_blocks.proofs.Filters.Probes.{next_at, probe_at, probes_more}
use Rattle.sstable_blocks.proofs.table.filter.standard_bloom.builder.enable_probes.Goals as goal

pub loop-i-preserved : goal.loop-i-preserved
loop-i-preserved c = record {
  at = next_at c.args.hash c.loop-i.i c.loop-i.first c.loop-i.second c.loop-i.invariant.at;
  length = c.enable_bit.ensures.length ∙ c.loop-i.invariant.length;
  bits = λ b. probes_more (HasBit c.args.bits.now b) (HasBit c.loop-i.bits b) (HasBit c.enable_bit.new.self b) c.args.m.now c.args.hash c.loop-i.i b _
      (c.remainder.ensures ∙ probe_at c.args.m.now c.args.hash c.loop-i.i c.loop-i.first c.loop-i.second c.loop-i.invariant.at) (c.enable_bit.ensures.bits b) (c.loop-i.invariant.bits b);
}
