use Rattle.std.proofs.Common.{sym, ◌∙◌}
use Rattle.sst_program.proofs.EntryTexts.EntryLaw.{line-inverse, line-complete, law-along}
use Rattle.sst_program.proofs.lines.entry_in.Goals as goal

pub returns-in-Some-clause-encoded : goal.returns-in-Some-clause-encoded
returns-in-Some-clause-encoded c = law-along c.args.line.now _ c.entry_from.result c.in-Some.ensures.some c.entry_from.ensures.ok

pub returns-in-None-clause-encoded : goal.returns-in-None-clause-encoded
returns-in-None-clause-encoded c e =
    (λ h. line-inverse c.args.line.now e (c.in-None.ensures.none ∙ h), λ h. sym c.in-None.ensures.none ∙ line-complete c.args.line.now e h)
