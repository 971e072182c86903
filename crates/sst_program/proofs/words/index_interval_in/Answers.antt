use Rattle.std.proofs.Common.{sym, ◌∙◌, ap, arith}
use Rattle.sst_program.specs.Text.{number_within}
use Rattle.sst_program.specs.Commands.{index_interval_of}
use Rattle.sst_program.proofs.WordTexts.CommandWords.{map-one, interval-none, interval-one, interval-more}
use Rattle.sst_program.proofs.words.index_interval_in.Goals as goal

pub returns-in-empty-clause-value : goal.returns-in-empty-clause-value
returns-in-empty-clause-value g c = sym (interval-none g.W.AsSlice.items c.args.words.now (omega arith))

pub returns-in-len1-clause-value : goal.returns-in-len1-clause-value
returns-in-len1-clause-value g c =
    let f = g.W.AsSlice.items in
    let one = map-one f c.args.words.now c.word-item.result (omega arith) (omega arith) c.word-item.is in
    c.interval_in.ensures.value ∙ ap (number_within 1 255) c.as_slice.ensures ∙ sym (ap index_interval_of one ∙ interval-one (f c.word-item.result))

pub returns-in_default-clause-value : goal.returns-in_default-clause-value
returns-in_default-clause-value g c = sym (interval-more g.W.AsSlice.items c.args.words.now (omega arith))
