-- Laws of the encoding of handles: what was written is read again, whatever follows, and what is read was written so.
use Rattle.std.proofs.Common.{◌≡◌, ℕ, ◌+◌, ◌-◌, ◌*◌, ◌/◌, ◌≤◌, ◌<◌, ◌^◌, suc, List, [], ◌∷◌, ◌++◌, refl, arith, sym, ◌∙◌, ap, subst, Ok, Err, append_assoc, inl, inr, lit<}
use Rattle.std.proofs.lemmas.Bool.{cases_lt, cases_eq}
use Rattle.std.proofs.lemmas.Bool.Decides.{nat_tests}
use Rattle.sst_base.specs.Bytes.{IsBytes}
use Rattle.sst_base.specs.BytesLaws.{IsBytes-back}
use Rattle.sst_base.specs.Header.{◌>>=◌}
use Rattle.sst_base.specs.HeaderLaws.{bind_ok}
use Rattle.sst_base.specs.Varint.{IsVarint, varint}
use Rattle.sst_base.specs.VarintLaws.{IsVarint-varint, one_encoding, larger}
use Rattle.sst_base.specs.BlockHandle.{HandleParts, handle_bytes, behind_digit, handle_number_at, handle_at}
use Rattle.sst_base.specs.declared.error.Error.TheVariants.{BadHandle}

number_small : (max b : ℕ) (bs : List ℕ) → b < 128 → b ≤ max → handle_number_at max (b ∷ bs) ≡ Ok (b, bs)
unfolding handle_number_at
number_small max b bs h k = search (arith, nat_tests)

number_wide : (max b : ℕ) (bs : List ℕ) → b < 128 → max < b → handle_number_at max (b ∷ bs) ≡ Err BadHandle
unfolding handle_number_at
number_wide max b bs h k = search (arith, nat_tests)

number_full : (max b : ℕ) (bs : List ℕ) → 128 ≤ b → max < 128 → handle_number_at max (b ∷ bs) ≡ Err BadHandle
unfolding handle_number_at
number_full max b bs h k = search (arith, nat_tests)

number_more : (max b : ℕ) (bs : List ℕ) → 128 ≤ b → 128 ≤ max → handle_number_at max (b ∷ bs) ≡ (handle_number_at ((max - (b - 128)) / 128) bs >>= behind_digit (b - 128))
unfolding handle_number_at
number_more max b bs h k = search (arith, nat_tests)

behind_some : (d high : ℕ) (rest : List ℕ) → 0 < high → behind_digit d (high, rest) ≡ Ok (d + 128 * high, rest)
behind_some d high rest h = search (arith, nat_tests)

behind_takes : (d : ℕ) (high : ℕ × List ℕ) (n : ℕ) (rest : List ℕ) → behind_digit d high ≡ Ok (n, rest) → (0 < high.0) × (n ≡ d + 128 * high.0) × (high.1 ≡ rest)
behind_takes d high n rest e = elim (cases_eq high.0 0) [
  | inl zero' ↦ (let f : behind_digit d high ≡ Err BadHandle = search (arith, nat_tests) in cc)
  | inr some ↦ (let f : behind_digit d high ≡ Ok (d + 128 * high.0, high.1) = search (arith, nat_tests) in
      let q : (d + 128 * high.0, high.1) ≡ (n, rest) = cc in
      (omega arith, sym (ap (λ (t : ℕ × List ℕ). t.0) q), ap (λ (t : ℕ × List ℕ). t.1) q))
]

-- an encoding is read, whatever follows
pub handle_number_at-again : (bs rest : List ℕ) (max n : ℕ) → IsVarint bs n → n ≤ max → handle_number_at max (bs ++ rest) ≡ Ok (n, rest)
handle_number_at-again [] rest max n v h = absurd v
handle_number_at-again (b ∷ []) rest max n v h = number_small max b rest v.0 (omega arith) ∙ ap (λ m. Ok (m, rest)) (sym v.1)
handle_number_at-again (b ∷ c ∷ bs) rest max n v h =
    let r = handle_number_at-again (c ∷ bs) rest ((max - (b - 128)) / 128) v.2 v.5 (omega arith) in
    number_more max b ((c ∷ bs) ++ rest) v.0 (omega arith)
    ∙ ap (λ q. q >>= behind_digit (b - 128)) r
    ∙ behind_some (b - 128) v.2 rest v.3
    ∙ (let e : (b - 128) + 128 * v.2 ≡ n = omega arith in ap (λ m. Ok (m, rest)) e)

-- what is read was written so
pub record WasNumber (max n : ℕ) (bytes rest : List ℕ) : Type 0 where
  pub front : List ℕ
  pub whole : bytes ≡ front ++ rest
  pub grammar : IsVarint front n
  pub fits : n ≤ max

pub handle_number_at_takes : (bs : List ℕ) (max n : ℕ) (rest : List ℕ) → IsBytes bs → handle_number_at max bs ≡ Ok (n, rest) → WasNumber max n bs rest
unfolding handle_number_at
handle_number_at_takes [] max n rest bytes e = cc
handle_number_at_takes (b ∷ bs) max n rest bytes e = elim (cases_lt b 128) [
  | inl small ↦ elim (cases_lt max b) [
    | inl wide ↦ (let f = number_wide max b bs small wide in cc)
    | inr fits ↦
        (let f = number_small max b bs small fits in
        let q : (b, bs) ≡ (n, rest) = cc in
        let n_is : b ≡ n = ap (λ (t : ℕ × List ℕ). t.0) q in
        record { front = b ∷ []; whole = ap (λ (t : ℕ × List ℕ). b ∷ t.1) q; grammar = (small, sym n_is); fits = omega arith })
  ]
  | inr large ↦ elim (cases_lt max 128) [
    | inl full ↦ (let f = number_full max b bs large full in cc)
    | inr room ↦
        (let f = number_more max b bs large room in
        let g = bind_ok (handle_number_at ((max - (b - 128)) / 128) bs) (behind_digit (b - 128)) (n, rest) (sym f ∙ e) in
        let h = behind_takes (b - 128) g.0 n rest g.2 in
        let r = handle_number_at_takes bs ((max - (b - 128)) / 128) g.0.0 g.0.1 (λ i. bytes (suc i)) g.1 in
        record {
          front = b ∷ r.front;
          whole = ap (λ xs. b ∷ xs) (r.whole ∙ ap (λ xs. r.front ++ xs) h.2);
          grammar = larger b g.0.0 n r.front (bytes 0) large h.1 h.0 r.grammar;
          fits = omega (arith, h.1, r.fits);
        })
  ]
]

number_was_written : (max n : ℕ) (bytes rest : List ℕ) → max < 2 ^ 64 → WasNumber max n bytes rest → bytes ≡ varint n ++ rest
number_was_written max n bytes rest small was =
    was.whole ∙ ap (λ xs. xs ++ rest) (one_encoding was.front (varint n) n was.grammar (IsVarint-varint n (omega (arith, was.fits))))

-- a handle is read again, whatever follows it
pub handle_at-handle_bytes : (h : HandleParts) (rest : List ℕ) → h.offset < 2 ^ 64 → h.size < 2 ^ 32 → handle_at (handle_bytes h ++ rest) ≡ Ok (h, rest)
unfolding handle_at
handle_at-handle_bytes h rest wide small =
    let size_fits : h.size < 2 ^ 64 = omega arith in
    let first = handle_number_at-again (varint h.offset) (varint h.size ++ rest) (2 ^ 64 - 1) h.offset (IsVarint-varint h.offset wide) (omega arith) in
    let second = handle_number_at-again (varint h.size) rest (2 ^ 32 - 1) h.size (IsVarint-varint h.size size_fits) (omega arith) in
    rw (append_assoc (varint h.offset) (varint h.size) rest, first, second) refl

-- what is read was written so
pub handle_at_takes : (bytes : List ℕ) (h : HandleParts) (rest : List ℕ) → IsBytes bytes → handle_at bytes ≡ Ok (h, rest) → (bytes ≡ handle_bytes h ++ rest) × (h.offset < 2 ^ 64) × (h.size < 2 ^ 32)
unfolding handle_at
handle_at_takes bytes h rest small e =
    let o = bind_ok (handle_number_at (2 ^ 64 - 1) bytes) _ (h, rest) e in
    let first = handle_number_at_takes bytes (2 ^ 64 - 1) o.0.0 o.0.1 small o.1 in
    let s = bind_ok (handle_number_at (2 ^ 32 - 1) o.0.1) _ (h, rest) o.2 in
    let second = handle_number_at_takes o.0.1 (2 ^ 32 - 1) s.0.0 s.0.1 (IsBytes-back first.front o.0.1 (subst IsBytes first.whole small)) s.1 in
    let a = number_was_written (2 ^ 64 - 1) o.0.0 bytes o.0.1 (lit< tt) first in
    let b = number_was_written (2 ^ 32 - 1) s.0.0 o.0.1 s.0.1 (lit< tt) second in
    let found : HandleParts = record { offset = o.0.0; size = s.0.0 } in
    let same : (found, s.0.1) ≡ (h, rest) = cc (s.2) in
    let P : HandleParts × List ℕ → Type 0 = λ q. (bytes ≡ handle_bytes q.0 ++ q.1) × (q.0.offset < 2 ^ 64) × (q.0.size < 2 ^ 32) in
    subst P same (a ∙ ap (λ xs. varint o.0.0 ++ xs) b ∙ sym (append_assoc (varint o.0.0) (varint s.0.0) s.0.1), omega (arith, first.fits), omega (arith, second.fits))
