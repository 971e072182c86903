use Rattle.std.proofs.Common.{rules}
use Rattle.sst_program.proofs.WordTexts.NumberText.{IsUtf8-number}
use Rattle.sst_program.proofs.text.parsed.Goals as goal

pub returns-in_err-ok-clause-some : goal.returns-in_err-ok-clause-some
returns-in_err-ok-clause-some c = search (rules, IsUtf8-number)
