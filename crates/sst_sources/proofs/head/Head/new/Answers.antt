use Rattle.sst_sources.specs.ErrorLaws.{new_no_more}
use Rattle.sst_sources.proofs.head.Head.new.Goals as goal

pub returns-clause-no_more : goal.returns-clause-no_more
returns-clause-no_more g c = new_no_more c.in_ok-held.held (g.I.Source.left c.args.source) (g.I.Source.left c.next_entry.new.self) c.in_ok-held.ensures.no_more
