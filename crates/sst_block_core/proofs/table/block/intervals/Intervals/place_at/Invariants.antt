use Rattle.std.proofs.Common.{◌≡◌, ℕ, ◌-◌, ◌*◌, ◌<◌, ◌≤◌, length}
use Rattle.sst_block_core.specs.Body.{place_offset}
use Rattle.sst_block_core.proofs.table.block.intervals.Intervals.place_at.Given as goal

abbrev pub invariant-loop-right : goal.invariant-loop-right
invariant-loop-right g l = record {
  order : l.left < l.right;
  inside : (l.right - 1) * l.self.list.interval < length l.self.list.items;
  between : (j : ℕ) → j * l.self.list.interval < length l.self.list.items → l.offset ≡ place_offset g.Item.BlockItem.kind l.self.list.interval l.self.list.items (j * l.self.list.interval) → (l.left ≤ j) × (j < l.right);
}

abbrev pub decreases-loop-right : goal.decreases-loop-right
decreases-loop-right g l = l.right - l.left
