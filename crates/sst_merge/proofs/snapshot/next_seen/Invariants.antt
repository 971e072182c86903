use Rattle.std.proofs.Common.{◌≡◌, ◌≤◌}
use Rattle.std.specs.Option.{option_map}
use Rattle.sst_merge.specs.Snapshot.{visible_from}
use Rattle.sst_sources.specs.Sources.{MeetsNoMore}
use Rattle.sst_merge.proofs.snapshot.next_seen.Given as goal

abbrev pub invariant-loop-item : goal.invariant-loop-item
invariant-loop-item g l = record {
  list : option_map (visible_from g.T.AsEntry.entry l.seqno l.last) (g.I.Source.left l.source).list ≡ option_map (visible_from g.T.AsEntry.entry l.seqno l.fn.last) (g.I.Source.left l.fn.source).list;
  most : (g.I.Source.left l.source).most ≤ (g.I.Source.left l.fn.source).most;
  no_more : MeetsNoMore (g.I.Source.left l.fn.source) (g.I.Source.left l.source);
}

abbrev pub decreases-loop-item : goal.decreases-loop-item
decreases-loop-item g l = (g.I.Source.left l.source).most
