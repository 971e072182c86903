-- Blocks that rise are read once.
use Rattle.std.proofs.Common.{◌≡◌, ℕ, ◌+◌, ◌<◌, eqb, Bool, true, false, cond, List, [], ◌∷◌, refl, arith, sym, ◌∙◌, ap, inl, inr, Option, Some, None}
use Rattle.std.proofs.lemmas.Bool.{cases_lt, eq-eqb, ne_eqb}
use Rattle.sstable_blocks.specs.ManyReads.{IsRising, different, has, indexes, many_frames}

-- a number below a list that rises is not in it
none_below : (x y : ℕ) (ys : List ℕ) → x < y → IsRising (y ∷ ys) → has x (y ∷ ys) ≡ false
none_below x y [] less rising = ap (λ b. cond b true false) (ne_eqb y x (λ e. absurd (omega (arith, e, less))))
none_below x y (z ∷ zs) less rising =
    let le = rising.0 in
    ap (λ b. cond b true (has x (z ∷ zs))) (ne_eqb y x (λ e. absurd (omega (arith, e, less)))) ∙ none_below x z zs (omega (arith, le, less)) rising.1

abbrev unless : Bool → ℕ
unless b = cond b 0 1

-- the frames after a block are those of the other blocks
after_one : (x : ℕ) (ps : List (Option ℕ)) → IsRising (x ∷ indexes ps) → 1 + many_frames (Some x) ps ≡ different (x ∷ indexes ps)
after_one x [] rising = refl
after_one x (None ∷ ps) rising = omega (arith, after_one x ps rising)
after_one x (Some y ∷ ps) rising =
    let more = after_one y ps rising.1 in
    let le = rising.0 in
    elim (cases_lt x y) [
      | inl less ↦ (
          let apart : eqb x y ≡ false = ne_eqb x y (λ e. absurd (omega (arith, e, less))) in
          let one : unless (eqb x y) ≡ 1 = ap unless apart in
          let new : unless (has x (y ∷ indexes ps)) ≡ 1 = ap unless (none_below x y (indexes ps) less rising.1) in
          omega (arith, more, one, new))
      | inr ge ↦ (
          let e : x ≡ y = omega (arith, le, ge) in
          let none : unless (eqb x y) ≡ 0 = ap unless (eq-eqb x y e) in
          let there : has x (y ∷ indexes ps) ≡ true = ap (λ b. cond b true (has x (indexes ps))) (eq-eqb y x (sym e)) in
          let old : unless (has x (y ∷ indexes ps)) ≡ 0 = ap unless there in
          omega (arith, more, none, old))
    ]

pub once : (ps : List (Option ℕ)) → IsRising (indexes ps) → many_frames None ps ≡ different (indexes ps)
once [] rising = refl
once (None ∷ ps) rising = omega (arith, once ps rising)
once (Some x ∷ ps) rising = after_one x ps rising
