use Rattle.std.proofs.Common.{◌≡◌, sym, ◌∙◌, ap, arith}
use Rattle.std.specs.Prelude.{map, None}
use Rattle.sst_program.specs.Commands.{file_of, file_of_words}
use Rattle.sst_program.proofs.WordTexts.CommandWords.{map-one, file-words, file-too_few, file-too_many}
use Rattle.sst_program.proofs.words.file_word.Goals as goal
use Rattle.sst_program.proofs.words.file_word.Goals.{in_default-via-then-words-lt1, in_default-via-else-words-lt1+else-words-lt2}

pub returns-in-len1 : goal.returns-in-len1
returns-in-len1 g c =
    let f = g.W.AsSlice.items in
    let one = map-one f c.args.words.now c.file-item.result (omega arith) (omega arith) c.file-item.is in
    c.file_in.ensures ∙ ap file_of c.as_slice.ensures ∙ sym (ap file_of_words one ∙ file-words (f c.file-item.result))

pub returns-in_default : goal.returns-in_default
returns-in_default g c =
    elim c.in_default.branch [
      | in_default-via-then-words-lt1 w ↦ let none : file_of_words (map g.W.AsSlice.items c.args.words.now) ≡ None = grind (arith, file-too_few, file-too_many) in sym none
      | in_default-via-else-words-lt1+else-words-lt2 w ↦ let none : file_of_words (map g.W.AsSlice.items c.args.words.now) ≡ None = grind (arith, file-too_few, file-too_many) in sym none
    ]
