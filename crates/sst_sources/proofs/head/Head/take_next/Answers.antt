use Rattle.sst_sources.specs.ErrorLaws.{held_no_more}
use Rattle.sst_sources.proofs.head.Head.take_next.Goals as goal

pub returns-in-Ok-clause-no_more : goal.returns-in-Ok-clause-no_more
returns-in-Ok-clause-no_more g c = held_no_more c.self.inside.held c.replace.new.dest c.self.inside.ended c.self.inside.ended (g.I.Source.left c.self.inside.source) (g.I.Source.left c.next_entry.new.self) c.args.self.now c.self.view_is c.in_default.is c.in-Ok.ensures.no_more
