use Rattle.std.proofs.Common.{◌≡◌, sym, ◌∙◌, ap, arith}
use Rattle.std.specs.Prelude.{map, None}
use Rattle.std.specs.Option.{option_map}
use Rattle.sst_program.specs.Commands.{point_of_words}
use Rattle.sst_program.specs.declared.words.Command.TheVariants.{Point}
use Rattle.sst_program.proofs.WordTexts.CommandWords.{point-found, point-too_few, point-too_many}
use Rattle.sst_program.proofs.words.point_words.Goals as goal
use Rattle.sst_program.proofs.words.point_words.Goals.{in_default-via-then-words-lt3, in_default-via-else-words-lt3+else-words-lt4}

pub returns-in_default-clause-ok : goal.returns-in_default-clause-ok
returns-in_default-clause-ok g c =
    elim c.in_default.branch [
      | in_default-via-then-words-lt3 w ↦ let none : point_of_words (map g.W.AsSlice.items c.args.words.now) ≡ None = grind (arith, point-too_few, point-too_many) in sym (ap (option_map (λ x. Point x)) none)
      | in_default-via-else-words-lt3+else-words-lt4 w ↦ let none : point_of_words (map g.W.AsSlice.items c.args.words.now) ≡ None = grind (arith, point-too_few, point-too_many) in sym (ap (option_map (λ x. Point x)) none)
    ]

pub returns-in-Some-clause-ok : goal.returns-in-Some-clause-ok
returns-in-Some-clause-ok g c =
    let found = point-found g.W.AsSlice.items c.args.words.now c.interval-item.result c.key-item.result c.seqno-item.result c.as_slice.result.now c.as_slice-2.result.now c.as_slice-3.result.now
    (omega arith) (omega arith) c.interval-item.is c.key-item.is c.seqno-item.is c.as_slice.ensures c.as_slice-2.ensures c.as_slice-3.ensures in
    sym (ap (option_map (λ x. Point x)) (found ∙ sym c.in_ok-words.ensures.ok ∙ c.in-Some.is))

pub returns-in-None-clause-ok : goal.returns-in-None-clause-ok
returns-in-None-clause-ok g c =
    let found = point-found g.W.AsSlice.items c.args.words.now c.interval-item.result c.key-item.result c.seqno-item.result c.as_slice.result.now c.as_slice-2.result.now c.as_slice-3.result.now
    (omega arith) (omega arith) c.interval-item.is c.key-item.is c.seqno-item.is c.as_slice.ensures c.as_slice-2.ensures c.as_slice-3.ensures in
    sym (ap (option_map (λ x. Point x)) (found ∙ sym c.in_ok-words.ensures.ok ∙ c.in-None.is))
