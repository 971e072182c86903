use Rattle.sst_tool.proofs.Scanning.Passed.{passed_no_more}
use Rattle.sst_tool.proofs.seen_back.SeenBackSourceInternalValue.next_entry.Goals as goal

pub returns-clause-no_more : goal.returns-clause-no_more
returns-clause-no_more g c =
    let old = c.args.self.now in
    let step = c.next_seen-next in
    passed_no_more step.result old.ended c.keep_error.new.ended (g.I.Source.left old.source) (g.I.Source.left step.new.source) c.keep_error.ensures step.ensures.no_more
