use Rattle.sst_merge.specs.Snapshot.{visible_from}
use Rattle.sst_sources.specs.ErrorLaws.{as_no_more}
use Rattle.sst_merge.proofs.snapshot.SnapshotSource.next_entry.Goals as goal

pub returns-clause-no_more : goal.returns-clause-no_more
returns-clause-no_more g c =
    as_no_more c.next_seen-step.result (visible_from g.T.AsEntry.entry c.self.inside.seqno c.self.inside.last) (visible_from g.T.AsEntry.entry c.self.inside.seqno c.next_seen-step.new.last)
    c.self.inside.ended c.keep_error.new.ended (g.I.Source.left c.self.inside.source) (g.I.Source.left c.next_seen-step.new.source) c.args.self.now c.self.view_is c.keep_error.ensures c.next_seen-step.ensures.no_more
