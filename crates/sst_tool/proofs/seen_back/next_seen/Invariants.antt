use Rattle.std.proofs.Common.{◌+◌, ◌≤◌}
use Rattle.sstable_blocks.specs.Prelude.{found_item}
use Rattle.sst_tool.proofs.seen_back.next_seen.Given as goal
use Rattle.sst_sources.specs.Sources.{MeetsNoMore}

abbrev pub decreases-loop-entry : goal.decreases-loop-entry
decreases-loop-entry g l = (g.I.Source.left l.source).most

abbrev pub invariant-loop-entry : goal.invariant-loop-entry
invariant-loop-entry g l = record {
  less : found_item l.newest + (g.I.Source.left l.source).most ≤ found_item l.initial.newest + (g.I.Source.left l.initial.source).most;
  no_more : MeetsNoMore (g.I.Source.left l.fn.source) (g.I.Source.left l.source);
}
