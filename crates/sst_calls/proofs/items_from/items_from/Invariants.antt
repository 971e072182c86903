use Rattle.std.proofs.Common.{◌≡◌, drop}
use Rattle.sstable_blocks.specs.Prelude.{items_left}
use Rattle.sst_calls.proofs.items_from.items_from.Given as goal

abbrev pub invariant-loop-at : goal.invariant-loop-at
invariant-loop-at g l = record {
  payload : l.items.payload ≡ l.fn.intervals.list.payload;
  list : l.items.window.list ≡ l.fn.intervals.list.items;
  left : items_left l.items.window ≡ drop l._at l.fn.intervals.list.items;
}
