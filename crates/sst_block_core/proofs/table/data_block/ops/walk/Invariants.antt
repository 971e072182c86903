use Rattle.std.proofs.Common.{◌≡◌, ◌++◌, map, drop}
use Rattle.sst_block_core.specs.Window.{answers, whole}
use Rattle.sst_block_core.specs.Answers.{answer_of}
use Rattle.sst_block_core.specs.Ops.{step_of}
use Rattle.sst_block_core.proofs.table.data_block.ops.walk.Given as goal

abbrev pub invariant-loop-op : goal.invariant-loop-op
invariant-loop-op g l = record {
  payload : l.iter.payload ≡ l.payload;
  so_far : map answer_of l.all.items ++ answers (map step_of (drop l.op-index l.ops)) l.iter.window ≡ answers (map step_of l.ops) (whole l.fn.block.items);
}
