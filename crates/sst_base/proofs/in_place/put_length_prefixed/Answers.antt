use Rattle.std.proofs.Common.{◌-◌, ◌++◌, ◌≡◌, length, take, drop, ap, ◌∙◌, append_assoc}
use Rattle.std.proofs.lemmas.List.{take_at}
use Rattle.std.specs.Vec.{vec_len}
use Rattle.sst_base.specs.Varint.{varint}
use Rattle.sst_base.proofs.Strings.InPlace.{rest_prefixed}
use Rattle.sst_base.proofs.in_place.put_length_prefixed.Goals as goal

pub returns-in-Some-clause-bytes : goal.returns-in-Some-clause-bytes
returns-in-Some-clause-bytes c =
    let n = c.in-Some.len - c.args.from in
    let rest = take n (drop c.args.from c.in-Some.short.now) in
    let room : length c.put_part.new.form ≡ vec_len c.args.writer.now = c.put_part.ensures.same_room ∙ c.put_varint-at.ensures.same_room ∙ c.as_mut_slice-form.ensures.len in
    let before = take c.args.at c.args.writer.now.items in
    ap (take c.put_part.result) (take_at c.put_part.new.form _ _ room) ∙ c.put_part.ensures.bytes
    ∙ ap (λ xs. xs ++ rest) c.put_varint-at.ensures.bytes
    ∙ ap (λ items. (take c.args.at items ++ varint n) ++ rest) c.as_mut_slice-form.ensures.value
    ∙ append_assoc before (varint n) rest
    ∙ ap (λ xs. before ++ xs) (rest_prefixed c.in-Some.short.now c.args.bytes.now c.args.from c.in-Some.len c.in-Some.ensures.array c.in-Some.ensures.len c.requires.inside c.in-Some.ensures.bytes)
