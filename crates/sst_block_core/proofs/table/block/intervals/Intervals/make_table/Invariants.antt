use Rattle.std.proofs.Common.{◌≡◌, ◌≤◌}
use Rattle.sst_block_core.specs.Heads.{IsHeadTableUpto, HeadsBegin}
use Rattle.sst_block_core.specs.Found.{range_bytes}
use Rattle.sst_block_core.proofs.table.block.intervals.Intervals.make_table.Given as goal

abbrev pub invariant-loop-j : goal.invariant-loop-j
invariant-loop-j g l = record {
  list : l.self.list ≡ l.fn.self.list;
  table : IsHeadTableUpto g.Item.BlockItem.kind l.fn.self.list l.j l.table;
  begins : HeadsBegin g.Item.BlockItem.kind l.fn.self.list (range_bytes l.fn.self.list.payload l.table.prefix);
  room : l.count ≤ l.table.room;
}
