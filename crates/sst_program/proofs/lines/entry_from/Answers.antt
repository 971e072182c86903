use Rattle.std.proofs.Common.{◌≡◌, ◌≤◌, ◌<◌, ◌^◌, length, sym, ◌∙◌, inl, inr, arith}
use Rattle.std.specs.Prelude.{Some, None}
use Rattle.sst_program.specs.Line.{entry_of_parts, entry_within_limits}
use Rattle.sst_program.proofs.WordTexts.Numbers.{number-exact}
use Rattle.sst_program.proofs.EntryTexts.EntryParts.{parts-no_type, parts-no_number, parts-no_key, parts-no_value, parts-all, limits-passed, limits-kept, length-from_empty}
use Rattle.sst_program.proofs.lines.entry_from.Goals as goal
use Rattle.sst_program.proofs.lines.entry_from.Goals.{in_default-via-in-Some+in_default, in_default-via-in_default, then-is_empty-via-then-is_empty, then-is_empty-via-else-is_empty+then-len-gt-MAX_KEY_LEN, then-is_empty-via-else-is_empty+else-len-gt-MAX_KEY_LEN+then-len-gt-MAX_VALUE_LEN}

pub returns-in_default-clause-ok : goal.returns-in_default-clause-ok
returns-in_default-clause-ok c =
    let p = c.args.parts in
    elim c.in_default.branch [
      | in_default-via-in-Some+in_default w ↦
          sym (parts-no_number p.letter.now p.seqno.now p.key.now p.value.now w.in_default.field-0-0 (sym w.in_default.ensures.exact) (number-exact None p.seqno.now w.in_default.ensures'.some tt))
      | in_default-via-in_default w ↦
          sym (parts-no_type p.letter.now p.seqno.now p.key.now p.value.now (sym c.value_type_in.ensures.exact ∙ w.in_default.is-0))
    ]

pub returns-in_default-2-clause-ok : goal.returns-in_default-2-clause-ok
returns-in_default-2-clause-ok c =
    let p = c.args.parts in
    let h = c.in-Some-Some in
    sym (parts-no_key p.letter.now p.seqno.now p.key.now p.value.now h.value_type h.seqno (sym h.ensures.exact) (number-exact (Some h.seqno) p.seqno.now h.ensures'.some h.ensures'.value)
    (sym (rw c.in_default-2.is at c.in_ok-key.ensures.ok)))

pub returns-in_default-3-clause-ok : goal.returns-in_default-3-clause-ok
returns-in_default-3-clause-ok c =
    let p = c.args.parts in
    let h = c.in-Some-Some in
    sym (parts-no_value p.letter.now p.seqno.now p.key.now p.value.now h.value_type h.seqno c.in-Some.key.items (sym h.ensures.exact) (number-exact (Some h.seqno) p.seqno.now h.ensures'.some h.ensures'.value)
    (sym (rw c.in-Some.is at c.in_ok-key.ensures.ok)) (sym (rw c.in_default-3.is at c.in_ok-value.ensures.ok)))

pub returns-then-is_empty-clause-ok : goal.returns-then-is_empty-clause-ok
returns-then-is_empty-clause-ok c =
    let p = c.args.parts in
    let h = c.in-Some-Some in
    let key = c.in-Some.key.items in
    let value = c.in-Some-2.value.items in
    let all : entry_of_parts p.letter.now p.seqno.now p.key.now p.value.now ≡ entry_within_limits h.value_type h.seqno key value =
    parts-all p.letter.now p.seqno.now p.key.now p.value.now h.value_type h.seqno key value (sym h.ensures.exact) (number-exact (Some h.seqno) p.seqno.now h.ensures'.some h.ensures'.value)
    (sym (rw c.in-Some.is at c.in_ok-key.ensures.ok)) (sym (rw c.in-Some-2.is at c.in_ok-value.ensures.ok)) in
    elim c.then-is_empty.branch [
      | then-is_empty-via-then-is_empty w ↦ let e : length key ≡ 0 = omega (arith, length-from_empty _ _ c.is_empty.ensures w.if-is_empty.true) in sym (all ∙ limits-passed h.value_type h.seqno key value (inl e))
      | then-is_empty-via-else-is_empty+then-len-gt-MAX_KEY_LEN w ↦ let e : 65535 < length key = omega arith in sym (all ∙ limits-passed h.value_type h.seqno key value (inr (inl e)))
      | then-is_empty-via-else-is_empty+else-len-gt-MAX_KEY_LEN+then-len-gt-MAX_VALUE_LEN w ↦ let e : 2 ^ 32 ≤ length value = omega arith in sym (all ∙ limits-passed h.value_type h.seqno key value (inr (inr e)))
    ]

pub returns-clause-ok : goal.returns-clause-ok
returns-clause-ok c =
    let p = c.args.parts in
    let h = c.in-Some-Some in
    let key = c.in-Some.key.items in
    let value = c.in-Some-2.value.items in
    let all : entry_of_parts p.letter.now p.seqno.now p.key.now p.value.now ≡ entry_within_limits h.value_type h.seqno key value =
    parts-all p.letter.now p.seqno.now p.key.now p.value.now h.value_type h.seqno key value (sym h.ensures.exact) (number-exact (Some h.seqno) p.seqno.now h.ensures'.some h.ensures'.value)
    (sym (rw c.in-Some.is at c.in_ok-key.ensures.ok)) (sym (rw c.in-Some-2.is at c.in_ok-value.ensures.ok)) in
    let some : 1 ≤ length key = grind arith in
    let short : length key ≤ 65535 = omega arith in
    let fits : length value < 2 ^ 32 = omega arith in
    rw (c.from_components.ensures, c.in_ok-key-2.ensures.ok, c.in_ok-value-2.ensures.ok) (sym (all ∙ limits-kept h.value_type h.seqno key value some short fits))
