use Rattle.std.proofs.Common.{◌-◌, ◌≤◌, length}
use Rattle.std.specs.List.{count_by}
use Rattle.sst_merge.specs.MovableBlocks.{block_lists, is_block_sought}
use Rattle.sst_merge.proofs.movable_blocks.blocks_passed.Given as goal

abbrev pub invariant-loop-lo : goal.invariant-loop-lo
invariant-loop-lo g l = record {
  lo_under : l.lo ≤ count_by (is_block_sought l.key l.at_most) (block_lists l.blocks);
  hi_over : count_by (is_block_sought l.key l.at_most) (block_lists l.blocks) ≤ l.hi;
  inside : l.hi ≤ length l.blocks;
}

abbrev pub decreases-loop-lo : goal.decreases-loop-lo
decreases-loop-lo g l = l.hi - l.lo
