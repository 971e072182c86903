use Rattle.std.proofs.Common.{◌+◌, ◌-◌, ◌*◌, ◌/◌, ◌≡◌, ◌≤◌}
use Rattle.sst_block_core.specs.Scan.{IsPlace}
use Rattle.sst_block_core.proofs.table.block.intervals.Intervals.item_at.Given as goal

abbrev pub invariant-loop-at : goal.invariant-loop-at
invariant-loop-at g l = record {
  same : l.self.list ≡ l.fn.self.list;
  is_place : IsPlace g.Item.BlockItem.kind l.fn.self.list l.at;
  within : l.at.index ≤ l.index;
  heads : l.self.steps.heads ≡ l.fn.self.steps.heads;
  entries : l.self.steps.entries + l.index / l.interval * l.interval ≡ l.fn.self.steps.entries + l.at.index;
}

abbrev pub decreases-loop-at : goal.decreases-loop-at
decreases-loop-at g l = l.index - l.at.index
