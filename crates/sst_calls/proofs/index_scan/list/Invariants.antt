use Rattle.std.proofs.Common.{◌≡◌, drop, take}
use Rattle.sstable_blocks.specs.Prelude.{handles, items_in, items_left}
use Rattle.sst_calls.specs.IndexScans.{IsHandlePlace}
use Rattle.sst_calls.specs.Listing.{AreAt}
use Rattle.sst_calls.proofs.index_scan.list.Given as goal

abbrev pub invariant-loop-at : goal.invariant-loop-at
invariant-loop-at l = record {
  payload : l.items.payload ≡ l.fn.payload;
  left : items_left l.items.window ≡ drop l.at (drop l.fn.from (items_in handles l.fn.payload));
  listed : AreAt (IsHandlePlace l.fn.payload) (take l.at (drop l.fn.from (items_in handles l.fn.payload))) l.fn.places l.places;
}
