use Rattle.std.proofs.Common.{◌-◌, ◌≡◌, ◌+◌, ◌≤◌}
use Rattle.sst_block_core.specs.Intervals.{IsEntered}
use Rattle.sst_block_core.proofs.table.block.intervals.Intervals.scan_interval.Given as goal

abbrev pub invariant-loop-at : goal.invariant-loop-at
invariant-loop-at g l = record {
  same : l.self.list ≡ l.fn.self.list;
  entered : IsEntered g.Item.BlockItem.kind l.bound.needle.now l.bound.from l.fn.self.list l.at l.alike l.end;
  onwards : l.fn.from.index ≤ l.at.index;
  heads : l.self.steps.heads ≡ l.fn.self.steps.heads;
  entries : l.self.steps.entries + l.fn.from.index ≡ l.fn.self.steps.entries + l.at.index;
}

abbrev pub decreases-loop-at : goal.decreases-loop-at
decreases-loop-at g l = l.end - l.at.index
