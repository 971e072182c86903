use Rattle.std.proofs.Common.{◌-◌, ◌≡◌, ◌+◌, ◌*◌, ◌<◌, ◌≤◌, length}
use Rattle.sst_block_core.specs.Scan.{IsPlace}
use Rattle.sst_block_core.specs.Backs.{ArePlaces}
use Rattle.sst_block_core.proofs.table.block.intervals.Intervals.fill.Given as goal

abbrev pub invariant-loop-at : goal.invariant-loop-at
invariant-loop-at g l = record {
  same : l.self.list ≡ l.fn.self.list;
  is_place : IsPlace g.Item.BlockItem.kind l.fn.self.list l.at;
  upto : l.at.index ≤ l.end;
  some : 0 < length l.stack.items;
  count : l.number * l.fn.self.list.interval + length l.stack.items ≡ l.at.index;
  places : ArePlaces g.Item.BlockItem.kind l.fn.self.list l.stack.items l.at.base (l.number * l.fn.self.list.interval);
  entries : l.self.steps.entries + l.number * l.fn.self.list.interval ≡ l.fn.self.steps.entries + l.at.index;
  heads : l.self.steps.heads ≡ l.fn.self.steps.heads;
}

abbrev pub decreases-loop-at : goal.decreases-loop-at
decreases-loop-at g l = l.end - l.at.index
