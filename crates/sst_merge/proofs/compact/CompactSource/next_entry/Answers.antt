use Rattle.sst_merge.specs.Compact.{compact_from}
use Rattle.sst_sources.specs.ErrorLaws.{as_no_more}
use Rattle.sst_sources.specs.Sources.{with_held}
use Rattle.sst_merge.proofs.compact.CompactSource.next_entry.Goals as goal

pub returns-clause-no_more : goal.returns-clause-no_more
returns-clause-no_more g c =
    let old = c.self.inside in
    let step = c.next_staying-step.new in
    let go = compact_from g.T.AsEntry.entry old.snapshots.items (g.B.Bottom.at_bottom old.bottom) in
    as_no_more c.next_staying-step.result (go old.last) (go step.last) old.ended c.keep_error.new.ended
    (with_held old.source.held (g.I.Source.left old.source.source)) (with_held step.source.held (g.I.Source.left step.source.source)) c.args.self.now c.self.view_is c.keep_error.ensures c.next_staying-step.ensures.no_more
