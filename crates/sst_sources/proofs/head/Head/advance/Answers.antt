use Rattle.sst_sources.specs.ErrorLaws.{held_no_more}
use Rattle.sst_sources.specs.SourceLaws.{passed_held}
use Rattle.sst_sources.proofs.head.Head.advance.Goals as goal

pub returns-in-Ok-clause-first : goal.returns-in-Ok-clause-first
returns-in-Ok-clause-first g c = passed_held c.self.inside.ended c.self.inside.ended c.self.inside.held (g.I.Source.left c.self.inside.source) (g.I.Source.left c.next_entry.new.self) _ c.in-Ok.next c.self.view_is c.if-is_none.ensures c.in-Ok.ensures.first

pub returns-in-Ok-clause-no_more : goal.returns-in-Ok-clause-no_more
returns-in-Ok-clause-no_more g c = held_no_more c.self.inside.held c.in-Ok.next c.self.inside.ended c.self.inside.ended (g.I.Source.left c.self.inside.source) (g.I.Source.left c.next_entry.new.self) c.args.self.now c.self.view_is c.in_default.is c.in-Ok.ensures.no_more
