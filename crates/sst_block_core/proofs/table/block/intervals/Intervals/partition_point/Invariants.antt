use Rattle.std.proofs.Common.{◌-◌, ◌≡◌, ◌+◌, ◌*◌, ◌<◌, ◌≤◌, true, false, length}
use Rattle.sst_block_core.specs.Pointers.{head_count}
use Rattle.sst_block_core.specs.Intervals.{Answered, digits}
use Rattle.sst_block_core.proofs.table.block.intervals.Intervals.partition_point.Given as goal

abbrev pub invariant-loop-left : goal.invariant-loop-left
invariant-loop-left g l = record {
  same : l.self.list ≡ l.fn.self.list;
  order : l.left ≤ l.right;
  upto : l.right ≤ head_count l.fn.self.list.interval (length l.fn.self.list.items);
  inside : (l.right - 1) * l.fn.self.list.interval < length l.fn.self.list.items;
  before : 0 < l.left → Answered g.Item.BlockItem.kind (λ key s b. goal.F-post g l.pred key s b) l.fn.self.list.interval l.fn.self.list.items (l.left - 1) true;
  after : l.right < head_count l.fn.self.list.interval (length l.fn.self.list.items) → Answered g.Item.BlockItem.kind (λ key s b. goal.F-post g l.pred key s b) l.fn.self.list.interval l.fn.self.list.items l.right false;
  heads : l.self.steps.heads + digits (l.right - l.left) ≤ l.fn.self.steps.heads + digits (head_count l.fn.self.list.interval (length l.fn.self.list.items));
  grows : l.fn.self.steps.heads ≤ l.self.steps.heads;
  looked : l.right - l.left < head_count l.fn.self.list.interval (length l.fn.self.list.items) → l.fn.self.steps.heads < l.self.steps.heads;
  entries : l.self.steps.entries ≡ l.fn.self.steps.entries;
}

abbrev pub decreases-loop-left : goal.decreases-loop-left
decreases-loop-left g l = l.right - l.left
