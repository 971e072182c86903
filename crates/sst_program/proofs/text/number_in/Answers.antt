use Rattle.std.proofs.Common.{sym}
use Rattle.sst_program.proofs.WordTexts.Numbers.{number-exact}
use Rattle.sst_program.proofs.text.number_in.Goals as goal

pub returns-clause-exact : goal.returns-clause-exact
returns-clause-exact c = sym (number-exact c.parsed.result c.args.digits.now c.parsed.ensures.some c.parsed.ensures.value)
