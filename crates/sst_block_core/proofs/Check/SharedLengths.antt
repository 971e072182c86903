-- Whether a shared length is the greatest.
use Rattle.std.proofs.Common.{◌≡◌, ◌<◌, ◌≤◌, ℕ, ◌+◌, zero, suc, List, [], ◌∷◌, ◌++◌, take, drop, length, get_or, refl, ltb, eqb, true, false, arith, inl, inr}
use Rattle.std.proofs.lemmas.Bool.{lt-ltb, eq-eqb, ne_eqb, cases_eq, ltb-false, ltb-true}
use Rattle.sst_base.specs.SharedPrefix.{shared_prefix_length}
use Rattle.sst_base.specs.SharedPrefixLaws.{shared_prefix_inside}

pub alike_none : (a b : List ℕ) → length a ≡ 0 → ltb 0 (shared_prefix_length a b) ≡ false
alike_none [] b h = refl
alike_none (x ∷ a) b h = absurd (omega arith)

pub alike_none_right : (a b : List ℕ) → length b ≡ 0 → ltb 0 (shared_prefix_length a b) ≡ false
alike_none_right [] b h = refl
alike_none_right (x ∷ a) [] h = refl
alike_none_right (x ∷ a) (y ∷ b) h = absurd (omega arith)

pub alike_first : (a b : List ℕ) (d e : ℕ) → 0 < length a → 0 < length b → ltb 0 (shared_prefix_length a b) ≡ eqb (get_or a 0 d) (get_or b 0 e)
alike_first [] b d e h k = absurd (omega arith)
alike_first (x ∷ a) [] d e h k = absurd (omega arith)
alike_first (x ∷ a) (y ∷ b) d e h k = elim (cases_eq x y) [
  | inl s ↦ rw (eq-eqb x y s) (lt-ltb 0 (suc (shared_prefix_length a b)) (omega arith))
  | inr n ↦ rw (ne_eqb x y n) refl
]

-- what a base shares with a key that begins with a prefix of it
shared_front : (n : ℕ) (base rest : List ℕ) → n ≤ length base → shared_prefix_length base (take n base ++ rest) ≡ n + shared_prefix_length (drop n base) rest
shared_front zero base rest h = omega arith
shared_front (suc n) [] rest h = absurd (omega arith)
shared_front (suc n) (x ∷ base) rest h = rw (eq-eqb x x refl) (let r = shared_front n base rest (omega arith) in omega (arith, r))

pub greatest_far : (base rest : List ℕ) (n : ℕ) → length base < n → eqb (shared_prefix_length base (take n base ++ rest)) n ≡ false
greatest_far base rest n h =
    let s = (shared_prefix_inside base (take n base ++ rest)).0 in
    ne_eqb (shared_prefix_length base (take n base ++ rest)) n (λ e. omega (arith, s, e))

pub greatest_alike : (base rest : List ℕ) (n : ℕ) → n ≤ length base → ltb 0 (shared_prefix_length (drop n base) rest) ≡ true → eqb (shared_prefix_length base (take n base ++ rest)) n ≡ false
greatest_alike base rest n h k =
    let s = shared_front n base rest h in
    let some = ltb-true _ _ k in
    ne_eqb (shared_prefix_length base (take n base ++ rest)) n (λ e. omega (arith, s, e, some))

pub greatest_is : (base rest : List ℕ) (n : ℕ) → n ≤ length base → ltb 0 (shared_prefix_length (drop n base) rest) ≡ false → eqb (shared_prefix_length base (take n base ++ rest)) n ≡ true
greatest_is base rest n h k =
    let s = shared_front n base rest h in
    let none = ltb-false _ _ k in
    eq-eqb (shared_prefix_length base (take n base ++ rest)) n (omega (arith, s, none))
