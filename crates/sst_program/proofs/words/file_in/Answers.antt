use Rattle.std.proofs.Common.{sym}
use Rattle.sst_program.proofs.WordTexts.CommandWords.{file-utf8, file-other}
use Rattle.sst_program.proofs.words.file_in.Goals as goal

pub returns-in-Ok : goal.returns-in-Ok
returns-in-Ok c = sym (file-utf8 c.args.word.now c.in-Ok.name.now c.in-Ok.ensures.cases.0 c.in-Ok.ensures.cases.1)

pub returns-in-Err : goal.returns-in-Err
returns-in-Err c = sym (file-other c.args.word.now c.in-Err.ensures.cases.0)
