use Rattle.std.proofs.Common.{◌≡◌, ◌+◌, drop}
use Rattle.std.specs.Prelude.{◌↔◌}
use Rattle.std.specs.List.{AllByRecursion}
use Rattle.sstable_blocks.specs.Prelude.{EndFits}
use Rattle.sstable_blocks.specs.Sound.{AreContiguous}
use Rattle.sst_calls.specs.RunWrites.{frames_length}
use Rattle.sst_calls.proofs.run_write.frames_end.Given as goal

abbrev pub invariant-loop-item : goal.invariant-loop-item
invariant-loop-item l = record {
  ends : AllByRecursion EndFits (drop l.item-index l.items);
  sum : frames_length l.items ≡ l.end + frames_length (drop l.item-index l.items);
  here : AreContiguous 0 l.items ↔ AreContiguous l.end (drop l.item-index l.items);
}
