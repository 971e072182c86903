-- The longest shared prefix of two byte strings, a byte a step.
use Rattle.std.proofs.Common.{◌≡◌, ◌≢◌, ℕ, ◌+◌, ◌<◌, suc, List, ◌∷◌, length, get_or, drop, min, refl, arith, ◌∙◌, ap, drop-cons, length-drop, add-one}
use Rattle.std.proofs.lemmas.Bool.{eq-eqb, ne_eqb}
use Rattle.sst_base.specs.SharedPrefix.{shared_prefix_length}
use Rattle.sst_base.specs.SharedPrefixLaws.{shared_prefix_inside}

same_head : (x y : ℕ) (a b : List ℕ) → x ≡ y → shared_prefix_length (x ∷ a) (y ∷ b) ≡ suc (shared_prefix_length a b)
same_head x y a b e = rw (eq-eqb x y e) refl

other_head : (x y : ℕ) (a b : List ℕ) → x ≢ y → shared_prefix_length (x ∷ a) (y ∷ b) ≡ 0
other_head x y a b n = rw (ne_eqb x y n) refl

-- one more byte agrees
pub shared_step : (a b : List ℕ) (i n : ℕ) → i < length a → i < length b → get_or a i 0 ≡ get_or b i 0 → i + shared_prefix_length (drop i a) (drop i b) ≡ n → (i + 1) + shared_prefix_length (drop (i + 1) a) (drop (i + 1) b) ≡ n
shared_step a b i n h k e s =
    let p = drop-cons a i 0 h in
    let q = drop-cons b i 0 k in
    let t : shared_prefix_length (drop i a) (drop i b) ≡ suc (shared_prefix_length (drop (suc i) a) (drop (suc i) b)) =
    ap (λ x. shared_prefix_length x (drop i b)) p ∙ ap (shared_prefix_length (get_or a i 0 ∷ drop (suc i) a)) q ∙ same_head _ _ (drop (suc i) a) (drop (suc i) b) e in
    rw add-one (omega arith)

-- a byte differs
pub shared_stop : (a b : List ℕ) (i n : ℕ) → i < length a → i < length b → get_or a i 0 ≢ get_or b i 0 → i + shared_prefix_length (drop i a) (drop i b) ≡ n → i ≡ n
shared_stop a b i n h k e s =
    let p = drop-cons a i 0 h in
    let q = drop-cons b i 0 k in
    let t : shared_prefix_length (drop i a) (drop i b) ≡ 0 =
    ap (λ x. shared_prefix_length x (drop i b)) p ∙ ap (shared_prefix_length (get_or a i 0 ∷ drop (suc i) a)) q ∙ other_head _ _ (drop (suc i) a) (drop (suc i) b) e in
    omega arith

-- the shorter string has ended
pub shared_end : (a b : List ℕ) (i n : ℕ) → i ≡ min (length a) (length b) → i + shared_prefix_length (drop i a) (drop i b) ≡ n → i ≡ n
shared_end a b i n e s =
    let h = shared_prefix_inside (drop i a) (drop i b) in
    omega (arith, h.0, h.1, length-drop i a, length-drop i b)
