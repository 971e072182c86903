use Rattle.std.proofs.Common.{sym, ◌∙◌, ap}
use Rattle.std.specs.Prelude.{map, Some}
use Rattle.sst_program.specs.Commands.{name_of, command_named}
use Rattle.sst_program.proofs.WordTexts.CommandWords.{command-none, command-words}
use Rattle.sst_program.proofs.words.command_in.Goals as goal

pub returns-in_default-clause-ok : goal.returns-in_default-clause-ok
returns-in_default-clause-ok g c = sym (command-none g.W.AsSlice.items c.args.words.now c.in_default.ensures.cases)

pub returns-in-Some-Point-clause-ok : goal.returns-in-Some-Point-clause-ok
returns-in-Some-Point-clause-ok g c =
    let f = g.W.AsSlice.items in
    let named = sym (ap name_of c.as_slice.ensures) ∙ sym c.name_in.ensures ∙ c.in-Some-Point.is ∙ ap Some c.in-Some-Point.field-0-is in
    let same = command-words f c.args.words.now c.in-Some.name.now c.in-Some.words.now c.in-Some.ensures.cases.0 ∙ ap (λ n. command_named n (map f c.in-Some.words.now)) named in
    rw same c.point_words.ensures.ok

pub returns-in-Some-Pack-clause-ok : goal.returns-in-Some-Pack-clause-ok
returns-in-Some-Pack-clause-ok g c =
    let f = g.W.AsSlice.items in
    let named = sym (ap name_of c.as_slice.ensures) ∙ sym c.name_in.ensures ∙ c.in-Some-Pack.is ∙ ap Some c.in-Some-Pack.field-0-is in
    let same = command-words f c.args.words.now c.in-Some.name.now c.in-Some.words.now c.in-Some.ensures.cases.0 ∙ ap (λ n. command_named n (map f c.in-Some.words.now)) named in
    c.pack_words.ensures ∙ sym same

pub returns-in-Some-Get-clause-ok : goal.returns-in-Some-Get-clause-ok
returns-in-Some-Get-clause-ok g c =
    let f = g.W.AsSlice.items in
    let named = sym (ap name_of c.as_slice.ensures) ∙ sym c.name_in.ensures ∙ c.in-Some-Get.is ∙ ap Some c.in-Some-Get.field-0-is in
    let same = command-words f c.args.words.now c.in-Some.name.now c.in-Some.words.now c.in-Some.ensures.cases.0 ∙ ap (λ n. command_named n (map f c.in-Some.words.now)) named in
    rw same c.get_words.ensures.ok

pub returns-in-Some-Walk-clause-ok : goal.returns-in-Some-Walk-clause-ok
returns-in-Some-Walk-clause-ok g c =
    let f = g.W.AsSlice.items in
    let named = sym (ap name_of c.as_slice.ensures) ∙ sym c.name_in.ensures ∙ c.in-Some-Walk.is ∙ ap Some c.in-Some-Walk.field-0-is in
    let same = command-words f c.args.words.now c.in-Some.name.now c.in-Some.words.now c.in-Some.ensures.cases.0 ∙ ap (λ n. command_named n (map f c.in-Some.words.now)) named in
    c.walk_words.ensures ∙ sym same

pub returns-in-Some-Check-clause-ok : goal.returns-in-Some-Check-clause-ok
returns-in-Some-Check-clause-ok g c =
    let f = g.W.AsSlice.items in
    let named = sym (ap name_of c.as_slice.ensures) ∙ sym c.name_in.ensures ∙ c.in-Some-Check.is ∙ ap Some c.in-Some-Check.field-0-is in
    let same = command-words f c.args.words.now c.in-Some.name.now c.in-Some.words.now c.in-Some.ensures.cases.0 ∙ ap (λ n. command_named n (map f c.in-Some.words.now)) named in
    c.check_words.ensures ∙ sym same

pub returns-in-None-clause-ok : goal.returns-in-None-clause-ok
returns-in-None-clause-ok g c =
    let f = g.W.AsSlice.items in
    let named = sym (ap name_of c.as_slice.ensures) ∙ sym c.name_in.ensures ∙ c.in-None.is in
    let same = command-words f c.args.words.now c.in-Some.name.now c.in-Some.words.now c.in-Some.ensures.cases.0 ∙ ap (λ n. command_named n (map f c.in-Some.words.now)) named in
    sym same
