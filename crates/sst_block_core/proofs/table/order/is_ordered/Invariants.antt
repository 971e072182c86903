use Rattle.std.proofs.Common.{◌↔◌, ◌-◌, drop}
use Rattle.sst_block_core.specs.Kind.{IsOrdered}
use Rattle.sst_block_core.proofs.table.order.is_ordered.Given as goal

abbrev pub invariant-loop-i : goal.invariant-loop-i
invariant-loop-i g l = IsOrdered g.Item.BlockItem.kind (drop (l.i - 1) l.items) ↔ IsOrdered g.Item.BlockItem.kind l.items
