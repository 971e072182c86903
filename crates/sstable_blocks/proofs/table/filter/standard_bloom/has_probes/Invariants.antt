use Rattle.std.proofs.Common.{ℕ, ◌<◌}
use Rattle.sstable_blocks.specs.Bits.{HasBit}
use Rattle.sstable_blocks.specs.Probes.{probe}
use Rattle.sstable_blocks.proofs.Filters.Probes.{IsAt}
use Rattle.sstable_blocks.proofs.table.filter.standard_bloom.has_probes.Given as goal

abbrev pub invariant-loop-i : goal.invariant-loop-i
invariant-loop-i l = record {
  at : IsAt l.hash l.i l.first l.second;
  set : (i : ℕ) → i < l.i → HasBit l.bits (probe l.shape.m l.hash i);
}
