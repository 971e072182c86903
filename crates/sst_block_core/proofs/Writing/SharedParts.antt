-- The prefix that two keys share, where they are held in two parts.
use Rattle.std.proofs.Common.{◌≡◌, ℕ, suc, ◌+◌, ◌≤◌, ◌<◌, List, [], ◌∷◌, ◌++◌, length, take, drop, refl, sym, ap, ◌∙◌, arith, inl, inr, append_assoc}
use Rattle.std.proofs.lemmas.Bool.{eq-eqb, ne_eqb, cases_eq}
use Rattle.std.proofs.lemmas.List.{length-take-le, take-append-drop}
use Rattle.sst_base.specs.SharedPrefix.{shared_prefix_length}

-- of a first part that is not shared whole, what is after it is not shared
pub shared_before : (a x b : List ℕ) → shared_prefix_length a b < length a → shared_prefix_length a b ≡ shared_prefix_length (a ++ x) b
shared_before [] x b less = absurd (omega (arith, less))
shared_before (p ∷ a) x [] less = refl
shared_before (p ∷ a) x (q ∷ b) less = elim (cases_eq p q) [
  | inl e ↦ (let s : shared_prefix_length (p ∷ a) (q ∷ b) ≡ suc (shared_prefix_length a b) = rw (eq-eqb p q e) refl in
      let r = shared_before a x b (omega (arith, less, s)) in
      rw (eq-eqb p q e) (ap suc r))
  | inr n ↦ rw (ne_eqb p q n) refl
]

-- a first part that is shared whole, and what is shared after it
pub shared_behind : (a x b : List ℕ) → length a ≤ shared_prefix_length a b → shared_prefix_length a b + shared_prefix_length x (drop (shared_prefix_length a b) b) ≡ shared_prefix_length (a ++ x) b
shared_behind [] x b whole = omega arith
shared_behind (p ∷ a) x [] whole = absurd (omega (arith, whole))
shared_behind (p ∷ a) x (q ∷ b) whole = elim (cases_eq p q) [
  | inl e ↦ (let s : shared_prefix_length (p ∷ a) (q ∷ b) ≡ suc (shared_prefix_length a b) = rw (eq-eqb p q e) refl in
      let r = shared_behind a x b (omega (arith, whole, s)) in
      rw (eq-eqb p q e) (omega (arith, r)))
  | inr n ↦ (let s : shared_prefix_length (p ∷ a) (q ∷ b) ≡ 0 = rw (ne_eqb p q n) refl in absurd (omega (arith, whole, s)))
]

-- the same of two keys, whose first parts are of one length
both_before : (a x b y : List ℕ) → length a ≡ length b → shared_prefix_length a b < length a → shared_prefix_length a b ≡ shared_prefix_length (a ++ x) (b ++ y)
both_before [] x b y same less = absurd (omega (arith, less))
both_before (p ∷ a) x [] y same less = absurd (omega (arith, same))
both_before (p ∷ a) x (q ∷ b) y same less = elim (cases_eq p q) [
  | inl e ↦ (let s : shared_prefix_length (p ∷ a) (q ∷ b) ≡ suc (shared_prefix_length a b) = rw (eq-eqb p q e) refl in
      let r = both_before a x b y (omega (arith, same)) (omega (arith, less, s)) in
      rw (eq-eqb p q e) (ap suc r))
  | inr n ↦ rw (ne_eqb p q n) refl
]

both_behind : (a x b y : List ℕ) → length a ≡ length b → length a ≤ shared_prefix_length a b → shared_prefix_length a b + shared_prefix_length x y ≡ shared_prefix_length (a ++ x) (b ++ y)
both_behind [] x [] y same whole = omega arith
both_behind [] x (q ∷ b) y same whole = absurd (omega (arith, same))
both_behind (p ∷ a) x [] y same whole = absurd (omega (arith, same))
both_behind (p ∷ a) x (q ∷ b) y same whole = elim (cases_eq p q) [
  | inl e ↦ (let s : shared_prefix_length (p ∷ a) (q ∷ b) ≡ suc (shared_prefix_length a b) = rw (eq-eqb p q e) refl in
      let r = both_behind a x b y (omega (arith, same)) (omega (arith, whole, s)) in
      rw (eq-eqb p q e) (omega (arith, r)))
  | inr n ↦ (let s : shared_prefix_length (p ∷ a) (q ∷ b) ≡ 0 = rw (ne_eqb p q n) refl in absurd (omega (arith, whole, s)))
]

-- which one is first plays no part
pub shared_turned : (a b : List ℕ) → shared_prefix_length a b ≡ shared_prefix_length b a
shared_turned [] [] = refl
shared_turned [] (q ∷ b) = refl
shared_turned (p ∷ a) [] = refl
shared_turned (p ∷ a) (q ∷ b) = elim (cases_eq p q) [
  | inl e ↦ rw (eq-eqb p q e, eq-eqb q p (sym e)) (ap suc (shared_turned a b))
  | inr n ↦ rw (ne_eqb p q n, ne_eqb q p (λ e. n (sym e))) refl
]

-- a longer first part is cut where the shorter one ends
module _ (longer rest shorter other front more : List ℕ) (long : length shorter ≤ length longer) (front_is : front ≡ take (length shorter) longer) (more_is : more ≡ drop (length shorter) longer) where
  cut : front ++ (more ++ rest) ≡ longer ++ rest
  cut =
      (λ i. front_is i ++ (more_is i ++ rest))
      ∙ sym (append_assoc (take (length shorter) longer) (drop (length shorter) longer) rest)
      ∙ ap (λ p. p ++ rest) (take-append-drop (length shorter) longer)

  length_front : length front ≡ length shorter
  length_front = ap length front_is ∙ length-take-le (length shorter) longer long

  pub cut_before : shared_prefix_length front shorter < length front → shared_prefix_length front shorter ≡ shared_prefix_length (longer ++ rest) (shorter ++ other)
  cut_before less = both_before front (more ++ rest) shorter other length_front less ∙ ap (λ p. shared_prefix_length p (shorter ++ other)) cut

  pub cut_behind : length front ≤ shared_prefix_length front shorter → shared_prefix_length front shorter + shared_prefix_length (more ++ rest) other ≡ shared_prefix_length (longer ++ rest) (shorter ++ other)
  cut_behind whole = both_behind front (more ++ rest) shorter other length_front whole ∙ ap (λ p. shared_prefix_length p (shorter ++ other)) cut
