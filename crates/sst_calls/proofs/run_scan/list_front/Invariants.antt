use Rattle.std.proofs.Common.{◌≡◌, drop}
use Rattle.sstable_blocks.specs.Prelude.{items_left}
use Rattle.sst_calls.specs.Batches.{Lists}
use Rattle.sst_calls.proofs.Lists.BlockWindows.{between}
use Rattle.sst_calls.proofs.run_scan.list_front.Given as goal

abbrev pub invariant-loop-at : goal.invariant-loop-at
invariant-loop-at l = record {
  payload : l.items.payload ≡ l.fn.part.block.payload;
  left : items_left l.items.window ≡ drop l.at l.fn.part.block.items;
  lists : Lists l.fn.bytes l.fn.below (between l.fn.part.block.items l.fn.from l.at) l.fn.places l.places l.fn.count l.count;
}
