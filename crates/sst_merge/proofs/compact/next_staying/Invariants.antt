use Rattle.std.proofs.Common.{◌≡◌, ◌≤◌}
use Rattle.std.specs.Option.{option_map}
use Rattle.sst_merge.specs.Compact.{compact_from}
use Rattle.sst_sources.specs.Sources.{MeetsNoMore, with_held}
use Rattle.sst_merge.proofs.compact.next_staying.Given as goal

abbrev pub invariant-loop-item : goal.invariant-loop-item
invariant-loop-item g l =
    let now = with_held l.source.held (g.I.Source.left l.source.source) in
    let before = with_held l.fn.source.held (g.I.Source.left l.fn.source.source) in
    let bottom = g.B.Bottom.at_bottom l.fn.bottom in
    record {
      list : option_map (compact_from g.T.AsEntry.entry l.fn.snapshots bottom l.last) now.list ≡ option_map (compact_from g.T.AsEntry.entry l.fn.snapshots bottom l.fn.last) before.list;
      most : now.most ≤ before.most;
      no_more : MeetsNoMore (g.I.Source.left l.fn.source.source) (g.I.Source.left l.source.source);
    }

abbrev pub decreases-loop-item : goal.decreases-loop-item
decreases-loop-item g l = (with_held l.source.held (g.I.Source.left l.source.source)).most
