use Rattle.std.proofs.Common.{◌%◌, subst, below_more}
use Rattle.sstable_blocks.specs.Bits.{HasBit}
use Rattle.sstable_blocks.proofs.Filters.Probes.{next_at, probe_at}
use Rattle.sstable_blocks.proofs.table.filter.standard_bloom.has_probes.Goals as goal

pub loop-i-preserved : goal.loop-i-preserved
loop-i-preserved c =
    let m = c.args.shape.now.m in
    let bits = c.args.bits.now in
    let tested : HasBit bits (c.loop-i.first % m) = subst (HasBit bits) c.remainder.ensures (c.get.ensures.0 c.if-not-get.false) in
    record {
      at = next_at c.args.hash c.loop-i.i c.loop-i.first c.loop-i.second c.loop-i.invariant.at;
      set = below_more _ _ c.loop-i.invariant.set (subst (HasBit bits) (probe_at m c.args.hash c.loop-i.i c.loop-i.first c.loop-i.second c.loop-i.invariant.at) tested);
    }
