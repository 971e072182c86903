-- Varints and length-prefixed bytes that are encoded at an offset: what can be read there without a test.
use Rattle.std.proofs.Common.{◌≡◌, ℕ, ◌+◌, ◌-◌, ◌*◌, ◌/◌, ◌^◌, ◌<◌, ◌≤◌, inl, inr, List, [], ◌∷◌, length, take, drop, get_or, refl, sym, ap, subst, ◌∙◌, arith, Option, Some, None, leb, cond, length-drop}
use Rattle.std.specs.Option.{IsSome}
use Rattle.std.proofs.lemmas.Bool.{cases_lt, le-leb, lt-leb}
use Rattle.std.proofs.lemmas.List.{drop_all, drop_more, drop-drop, get_or-drop, get_or_default}
use Rattle.std.proofs.lemmas.Nat.{pow_pos}
use Rattle.std.proofs.Math.Nat.{mul-le-mul_left}
use Rattle.sst_base.specs.Varint.{IsWidth, varint_up_to, varint_at, with_digits}
use Rattle.sst_base.specs.VarintLaws.{varint_at_small, with_digit-with_digits, digits_end, digits_last, digits_zero, digits_wide, digits_full, digits_more, less_left, at_more}
use Rattle.sst_base.specs.Reading.{◌>>=◌, number_at, length_prefixed_at}
use Rattle.sst_base.specs.ReadingLaws.{chain_first, chain_next}
use Rattle.sst_block_core.specs.Digits.{IsReadTo}
use Rattle.sst_block_core.specs.Found.{Takes, range_bytes}
use Rattle.sst_block_core.proofs.Places.OffsetReads.{number_some}

-- where a number is encoded, a varint is
varint_some : (bits : ℕ) (bytes : List ℕ) → IsSome (number_at bits bytes) → IsSome (varint_at bits bytes)
unfolding number_at
varint_some bits bytes h = chain_first (varint_at bits bytes) _ h

none_some : {A : Type 0} (o : Option A) → IsSome o → None ≡ o → ⊥
none_some o h e = let q = subst IsSome (sym e) h in cc (q)

no_varint : (bits : ℕ) → varint_at bits [] ≡ None
unfolding varint_at varint_up_to
no_varint bits = refl

-- each width holds a digit
width_some : (bits : ℕ) → IsWidth bits → 256 ≤ 2 ^ bits - 1
width_some bits w = elim w [
  | inl e ↦ rw e (omega arith)
  | inr w ↦ elim w [
    | inl e ↦ rw e (omega arith)
    | inr e ↦ rw e (omega arith)
  ]
]

-- no width exceeds a word
pub width_most : (bits : ℕ) → IsWidth bits → 2 ^ bits ≤ 2 ^ 64
width_most bits w = elim w [
  | inl e ↦ rw e (omega arith)
  | inr w ↦ elim w [
    | inl e ↦ rw e (omega arith)
    | inr e ↦ rw e (omega arith)
  ]
]

module _ (bits at : ℕ) (bytes : List ℕ) (encoded : IsSome (number_at bits (drop at bytes))) where
  -- where a varint is encoded, there is a byte
  pub first_inside : at < length bytes
  first_inside = elim (cases_lt at (length bytes)) [
    | inl less ↦ less
    | inr past ↦ absurd (none_some (varint_at bits (drop at bytes)) (varint_some bits (drop at bytes) encoded) (sym (ap (varint_at bits) (drop_all at bytes past) ∙ no_varint bits)))
  ]

  module _ (width : IsWidth bits) (b d : ℕ) (first : b ≡ get_or bytes at d) where
    here : drop at bytes ≡ b ∷ drop (at + 1) bytes
    here = drop_more bytes at d first_inside ∙ ap (λ y. y ∷ drop (at + 1) bytes) (sym first)

    -- a varint of one byte
    pub one_digit : b < 128 → Takes (λ n. n) bytes (b, at + 1) (number_at bits (drop at bytes))
    one_digit small =
        let i = first_inside in
        (omega arith, number_some bits at bytes b 1 (sym (ap (varint_at bits) here ∙ varint_at_small bits b (drop (at + 1) bytes) width small)))

    -- the first byte of several
    pub first_read : 128 ≤ b → b < 256 → IsReadTo bits (drop at bytes) 1 (b - 128) 128
    unfolding varint_at
    first_read large byte =
        let max = 2 ^ bits - 1 in
        let left = (max - (b - 128)) / 128 in
        let wide = width_some bits width in
        record {
          room = left;
          fits = omega arith;
          rest = ap (λ xs. with_digits 1 (b - 128) 128 (varint_up_to left xs)) (drop-drop 1 at bytes)
              ∙ sym (with_digit-with_digits (b - 128) (varint_up_to left (drop (at + 1) bytes)))
              ∙ sym (at_more max b (drop (at + 1) bytes) large (omega arith))
              ∙ sym (ap (varint_up_to max) here);
        }

  module _ (len sum scale : ℕ) (read : IsReadTo bits (drop at bytes) len sum scale) where
    -- after a byte that isn't the last one there is another
    pub next_inside : at + len < length bytes
    next_inside = elim (cases_lt (at + len) (length bytes)) [
      | inl less ↦ less
      | inr past ↦
          let l = length-drop at bytes in
          absurd (none_some (varint_at bits (drop at bytes)) (varint_some bits (drop at bytes) encoded)
          (digits_end (drop at bytes) len sum scale read.room (varint_at bits (drop at bytes)) read.rest (omega arith)))
    ]

    module _ (b d : ℕ) (next : b ≡ get_or bytes (at + len) d) where
      there : len < length (drop at bytes)
      there = let l = length-drop at bytes in let i = next_inside in omega arith

      next_is : b ≡ get_or (drop at bytes) len 0
      next_is = next ∙ get_or_default bytes (at + len) d 0 next_inside ∙ sym (get_or-drop at bytes len 0)

      some_varint : IsSome (varint_at bits (drop at bytes))
      some_varint = varint_some bits (drop at bytes) encoded

      some_room : 128 ≤ b → 128 ≤ read.room
      some_room large = elim (cases_lt read.room 128) [
        | inl full ↦ absurd (none_some (varint_at bits (drop at bytes)) some_varint (digits_full (drop at bytes) len sum scale read.room (varint_at bits (drop at bytes)) read.rest b there next_is large full))
        | inr room ↦ room
      ]

      last_room : b < 128 → (0 < b) × (b ≤ read.room)
      last_room small = elim (cases_lt 0 b) [
        | inr zero' ↦ absurd (none_some (varint_at bits (drop at bytes)) some_varint (digits_zero (drop at bytes) len sum scale read.room (varint_at bits (drop at bytes)) read.rest b there next_is (omega arith)))
        | inl some ↦ elim (cases_lt read.room b) [
          | inl wide ↦ absurd (none_some (varint_at bits (drop at bytes)) some_varint (digits_wide (drop at bytes) len sum scale read.room (varint_at bits (drop at bytes)) read.rest b there next_is small wide))
          | inr room ↦ (some, room)
        ]
      ]

      -- the last byte
      pub last_digit : (end : ℕ) → end ≡ at + (len + 1) → b < 128 → Takes (λ n. n) bytes (sum + scale * b, end) (number_at bits (drop at bytes))
      last_digit end is small =
          let r = last_room small in
          let i = next_inside in
          let found = number_some bits at bytes (sum + scale * b) (len + 1) (digits_last (drop at bytes) len sum scale read.room (varint_at bits (drop at bytes)) read.rest b there next_is small r.0 r.1) in
          (omega arith, found ∙ ap (λ n. Some (sum + scale * b, drop n bytes)) (sym is))

      -- its number is within the width
      pub last_fits : b < 128 → sum + scale * b < 2 ^ bits
      last_fits small =
          let r = last_room small in
          let m : scale * b ≤ scale * read.room = mul-le-mul_left scale r.1 in
          let f = read.fits in
          omega (arith, pow_pos bits)

      -- one more byte, which isn't the last
      pub next_read : 128 ≤ b → b < 256 → IsReadTo bits (drop at bytes) (len + 1) (sum + scale * (b - 128)) (scale * 128)
      next_read large byte =
          let r = some_room large in
          record {
            room = (read.room - (b - 128)) / 128;
            fits = less_left sum scale read.room (b - 128) (2 ^ bits - 1) (omega arith) read.fits;
            rest = digits_more (drop at bytes) len sum scale read.room (varint_at bits (drop at bytes)) read.rest b there next_is large r;
          }

      -- the sum with its digit and what the next one counts are within the width
      pub next_fits : 128 ≤ b → b < 256 → (sum + scale * (b - 128) < 2 ^ bits) × (scale * 128 < 2 ^ bits)
      next_fits large byte =
          let r = some_room large in
          let digit : b - 128 ≤ read.room = omega arith in
          let m : scale * (b - 128) ≤ scale * read.room = mul-le-mul_left scale digit in
          let n : scale * 128 ≤ scale * read.room = mul-le-mul_left scale r in
          let f = read.fits in
          (omega (arith, pow_pos bits), omega (arith, pow_pos bits))

-- the bytes after a length are there
length_some : (bits : ℕ) (bytes : List ℕ) (n : ℕ) (rest : List ℕ) → number_at bits bytes ≡ Some (n, rest) → IsSome (length_prefixed_at bits bytes)
    → (n ≤ length rest) × (length_prefixed_at bits bytes ≡ Some (take n rest, drop n rest))
unfolding length_prefixed_at
length_some bits bytes n rest e h =
    let q = chain_next (number_at bits bytes) _ (n, rest) e h in
    elim (cases_lt (length rest) n) [
      | inl far ↦ (let r = rw (lt-leb n (length rest) far) at q in cc (r))
      | inr fits ↦ (fits, ap (λ o. o >>= λ (m : ℕ × List ℕ). cond (leb m.0 (length m.1)) (Some (take m.0 m.1, drop m.0 m.1)) None) e ∙ ap (λ t. cond t (Some (take n rest, drop n rest)) None) (le-leb n (length rest) fits))
    ]

-- where length-prefixed bytes are encoded, their length is
pub length_first : (bits : ℕ) (bytes : List ℕ) → IsSome (length_prefixed_at bits bytes) → IsSome (number_at bits bytes)
unfolding length_prefixed_at
length_first bits bytes h = chain_first (number_at bits bytes) _ h

-- and after it lie the bytes, a range of the payload
pub length_range : (bits : ℕ) (payload bytes : List ℕ) (n start : ℕ) → start ≤ length payload → number_at bits bytes ≡ Some (n, drop start payload) → IsSome (length_prefixed_at bits bytes)
    → (start + n ≤ length payload) × (length_prefixed_at bits bytes ≡ Some (range_bytes payload (record { 0 = start; 1 = start + n }), drop (start + n) payload))
length_range bits payload bytes n start inside e h =
    let t = length_some bits bytes n (drop start payload) e h in
    let l = length-drop start payload in
    let fits = t.0 in
    let w : (start + n) - start ≡ n = omega arith in
    (omega arith, t.1 ∙ (λ i. Some (take (sym w i) (drop start payload), drop-drop n start payload i)))
