use Rattle.std.proofs.Common.{◌≡◌, ◌≤◌, Some, length, map}
use Rattle.sst_sources.specs.Merge.{merged}
use Rattle.sst_calls.specs.MergeSteps.{MergesTo}
use Rattle.sst_calls.specs.Placed.{placed_cmp, placed_lists, run_blocks}
use Rattle.sst_calls.proofs.merge_scan.merge_on.Given as goal

abbrev pub invariant-loop-item : goal.invariant-loop-item
invariant-loop-item l = record {
  list : l.merge.list ≡ Some (merged placed_cmp (placed_lists 0 l.runs l.windows));
  passes : MergesTo l.runs (map run_blocks l.runs) l.snapshots l.below l.fn.windows l.windows l.last l.listed.items;
  fits : length l.listed.items ≤ l.room;
}

abbrev pub decreases-loop-item : goal.decreases-loop-item
decreases-loop-item l = l.merge.most
