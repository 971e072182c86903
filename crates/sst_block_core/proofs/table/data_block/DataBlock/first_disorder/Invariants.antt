use Rattle.std.proofs.Common.{◌≡◌, ◌-◌, drop}
use Rattle.sst_block_core.specs.Disorder.{disorder_from}
use Rattle.sst_block_core.proofs.table.data_block.DataBlock.first_disorder.Given as goal

abbrev pub invariant-loop-i : goal.invariant-loop-i
invariant-loop-i g l = disorder_from (l.i - 1) (drop (l.i - 1) l.items) ≡ disorder_from 0 l.items
