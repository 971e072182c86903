use Rattle.std.proofs.Common.{◌≡◌, ◌⊎◌, ℕ, length}
use Rattle.std.specs.Prelude.{◌↔◌}
use Rattle.sstable_blocks.specs.Bits.{HasBit}
use Rattle.sstable_blocks.specs.Probes.{IsProbe}
use Rattle.sstable_blocks.proofs.Filters.Probes.{IsAt}
use Rattle.sstable_blocks.proofs.table.filter.standard_bloom.builder.enable_probes.Given as goal

abbrev pub invariant-loop-i : goal.invariant-loop-i
invariant-loop-i l = record {
  at : IsAt l.hash l.i l.first l.second;
  length : length l.bits ≡ length l.fn.bits;
  bits : (b : ℕ) → HasBit l.bits b ↔ (HasBit l.fn.bits b ⊎ IsProbe l.m l.i l.hash b);
}
