-- Laws of shared prefixes.
use Rattle.std.proofs.Common.{◌≡◌, ℕ, zero, suc, ◌+◌, ◌≤◌, List, [], ◌∷◌, ◌++◌, length, take, drop, refl, arith, inl, inr}
use Rattle.std.proofs.lemmas.Bool.{eq-eqb, ne_eqb, cases_eq}
use Rattle.sst_base.specs.SharedPrefix.{shared_prefix_length}

pub shared_prefix_inside : (a b : List ℕ) → (shared_prefix_length a b ≤ length a) × (shared_prefix_length a b ≤ length b)
shared_prefix_inside [] b = (omega arith, omega arith)
shared_prefix_inside (x ∷ a) [] = (omega arith, omega arith)
shared_prefix_inside (x ∷ a) (y ∷ b) = elim (cases_eq x y) [
  | inl e ↦ (let h = shared_prefix_inside a b in rw (eq-eqb x y e) (omega (arith, h.0), omega (arith, h.1)))
  | inr n ↦ (rw (ne_eqb x y n) (omega arith, omega arith))
]

-- the shared prefix of the first and the rest of the second, joined, are the second
pub shared_prefix_joins : (a b : List ℕ) → take (shared_prefix_length a b) a ++ drop (shared_prefix_length a b) b ≡ b
shared_prefix_joins [] b = refl
shared_prefix_joins (x ∷ a) [] = refl
shared_prefix_joins (x ∷ a) (y ∷ b) = elim (cases_eq x y) [
  | inl e ↦ rw (eq-eqb x y e) (let h = shared_prefix_joins a b in cc)
  | inr n ↦ rw (ne_eqb x y n) refl
]

-- equal prefixes, and what is shared after them
pub shared_prefix_behind : (n : ℕ) (a b : List ℕ) → n ≤ length a → n ≤ length b → take n a ≡ take n b → n + shared_prefix_length (drop n a) (drop n b) ≡ shared_prefix_length a b
shared_prefix_behind zero a b h k e = omega arith
shared_prefix_behind (suc n) [] b h k e = absurd (omega arith)
shared_prefix_behind (suc n) (x ∷ a) [] h k e = absurd (omega arith)
shared_prefix_behind (suc n) (x ∷ a) (y ∷ b) h k e =
    let first : x ≡ y = cc in
    let rest : take n a ≡ take n b = cc in
    let r = shared_prefix_behind n a b (omega arith) (omega arith) rest in
    rw (eq-eqb x y first) (omega (arith, r))
