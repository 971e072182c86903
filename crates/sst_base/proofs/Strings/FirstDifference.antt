-- The first byte in which two words differ, by the leading zeros of their difference.
use Rattle.std.proofs.Common.{◌≡◌, ◌≢◌, ℕ, ◌+◌, ◌*◌, ◌/◌, ◌<◌, ◌≤◌, ◌^◌, zero, suc, List, [], ◌∷◌, length, take, drop, refl, arith, sym, ap, ◌∙◌, inl, inr, subst, length-drop}
use Rattle.std.proofs.lemmas.Bool.{eq-eqb, ne_eqb, cases_eq, cases_lt}
use Rattle.std.proofs.lemmas.Nat.{leading_length, xor_block, and_le_l, and_le_r, xor_lt}
use Rattle.std.proofs.Math.Pow.{pow_mono}
use Rattle.std.proofs.Math.Nat.{mul-le-mul_right}
use Rattle.std.specs.Int.Bits.{bit_xor, xor_self, xor_add_and}
use Rattle.std.specs.Int.Count.{count_leading_zeros, leading_unique}
use Rattle.byteorder.specs.Endian.{big_number}
use Rattle.byteorder.specs.Numbers.{big_from-cons, big_from-lt}
use Rattle.sst_base.specs.Bytes.{IsBytes}
use Rattle.sst_base.specs.BytesLaws.{IsBytes-drop}
use Rattle.sst_base.specs.NumberLaws.{pow_256}
use Rattle.sst_base.specs.SharedPrefix.{shared_prefix_length}
use Rattle.sst_base.specs.SharedPrefixLaws.{shared_prefix_behind}

-- numbers whose exclusive or is 0 are equal
pub xor_zero : (a b : ℕ) → bit_xor a b ≡ 0 → a ≡ b
xor_zero a b e = omega (arith, e, xor_add_and a b, and_le_l a b, and_le_r a b)

-- a byte of zeros before a number
zeros_before : (k d : ℕ) → d < 2 ^ k → count_leading_zeros (8 + k) d ≡ 8 + count_leading_zeros k d
zeros_before k d h =
    let t = leading_length k d h in
    sym (leading_unique (8 + k) d (8 + count_leading_zeros k d) t.0 (omega (arith, t.1)) t.2 t.3)

-- less than a byte of zeros before a number whose first byte is not 0
no_zeros_before : (k d : ℕ) → 2 ^ k ≤ d → d < 2 ^ (8 + k) → count_leading_zeros (8 + k) d < 8
no_zeros_before k d h l =
    let t = leading_length (8 + k) d l in
    elim (cases_lt k t.0) [
      | inl g ↦ omega (arith, t.1, g)
      | inr s ↦ absurd (omega (arith, pow_mono {i = t.0} {j = k} s, t.2, h))
    ]

-- the number in one byte more
one_more : (k x : ℕ) (xs : List ℕ) → big_number (suc k) (x ∷ xs) ≡ x * 2 ^ (8 * k) + big_number k xs
one_more k x xs = ap (λ r. x * 256 ^ k + r) (big_from-cons 0 k x xs) ∙ ap (λ p. x * p + big_number k xs) (pow_256 k)

below : (k : ℕ) (xs : List ℕ) → IsBytes xs → big_number k xs < 2 ^ (8 * k)
below k xs b = subst (λ p. big_number k xs < p) (pow_256 k) (big_from-lt 0 k xs b)

nothing : (p r : ℕ) → 0 * p + r ≡ r
nothing p r = omega arith

-- the shared bytes of two different words, by the leading zeros of their difference
pub shared_of_words : (k : ℕ) (xs ys : List ℕ) → IsBytes xs → IsBytes ys → k ≤ length xs → k ≤ length ys → big_number k xs ≢ big_number k ys
    → shared_prefix_length xs ys ≡ count_leading_zeros (8 * k) (bit_xor (big_number k xs) (big_number k ys)) / 8
shared_of_words zero xs ys b c h l n = absurd (n refl)
shared_of_words (suc k) [] ys b c h l n = absurd (omega (arith, h))
shared_of_words (suc k) (x ∷ xs) [] b c h l n = absurd (omega (arith, l))
shared_of_words (suc k) (x ∷ xs) (y ∷ ys) b c h l n =
    let left = below k xs (λ i. b (suc i)) in
    let right = below k ys (λ i. c (suc i)) in
    let rest = bit_xor (big_number k xs) (big_number k ys) in
    let split : bit_xor (big_number (suc k) (x ∷ xs)) (big_number (suc k) (y ∷ ys)) ≡ bit_xor x y * 2 ^ (8 * k) + rest =
    (λ i. bit_xor (one_more k x xs i) (one_more k y ys i)) ∙ xor_block (8 * k) x y (big_number k xs) (big_number k ys) left right in
    let width : 8 * suc k ≡ 8 + 8 * k = omega arith in
    let goal_of = λ (n : ℕ). count_leading_zeros n (bit_xor (big_number (suc k) (x ∷ xs)) (big_number (suc k) (y ∷ ys))) / 8 in
    elim (cases_eq x y) [
      | inl e ↦ (
          let none : bit_xor x y ≡ 0 = ap (bit_xor x) (sym e) ∙ xor_self x in
          let same : bit_xor (big_number (suc k) (x ∷ xs)) (big_number (suc k) (y ∷ ys)) ≡ rest = split ∙ ap (λ a. a * 2 ^ (8 * k) + rest) none ∙ nothing (2 ^ (8 * k)) rest in
          let other : big_number k xs ≢ big_number k ys = λ q. n (one_more k x xs ∙ (λ i. e i * 2 ^ (8 * k) + q i) ∙ sym (one_more k y ys)) in
          let more = shared_of_words k xs ys (λ i. b (suc i)) (λ i. c (suc i)) (omega (arith, h)) (omega (arith, l)) other in
          let count : goal_of (8 * suc k) ≡ (8 + count_leading_zeros (8 * k) rest) / 8 =
          ap goal_of width ∙ ap (λ d. count_leading_zeros (8 + 8 * k) d / 8) same
          ∙ ap (λ z. z / 8) (zeros_before (8 * k) rest (xor_lt (8 * k) (big_number k xs) (big_number k ys) left right)) in
          rw (eq-eqb x y e) (omega (arith, more, count)))
      | inr ne ↦ (
          let some : 1 ≤ bit_xor x y = elim (cases_lt 0 (bit_xor x y)) [
            | inl g ↦ g
            | inr z ↦ absurd (ne (xor_zero x y (omega (arith, z))))
          ] in
          let whole = bit_xor (big_number (suc k) (x ∷ xs)) (big_number (suc k) (y ∷ ys)) in
          let great : 2 ^ (8 * k) ≤ whole = subst (λ d. 2 ^ (8 * k) ≤ d) (sym split) (omega (arith, mul-le-mul_right (2 ^ (8 * k)) some)) in
          let inside : whole < 2 ^ (8 + 8 * k) = subst (λ w. whole < 2 ^ w) width (xor_lt (8 * suc k) _ _ (below (suc k) (x ∷ xs) b) (below (suc k) (y ∷ ys) c)) in
          let few = no_zeros_before (8 * k) whole great inside in
          let count : goal_of (8 * suc k) ≡ count_leading_zeros (8 + 8 * k) whole / 8 = ap goal_of width in
          rw (ne_eqb x y ne) (omega (arith, few, count)))
    ]

-- the shared prefix ends within the first words that differ
pub differs_at : (a b : List ℕ) (m x y : ℕ) → IsBytes a → IsBytes b → m + 8 ≤ length a → m + 8 ≤ length b → x ≡ big_number 8 (drop m a) → y ≡ big_number 8 (drop m b)
    → take m a ≡ take m b → bit_xor x y ≢ 0 → m + count_leading_zeros 64 (bit_xor x y) / 8 ≡ shared_prefix_length a b
differs_at a b m x y c d h l p q e n =
    let other : big_number 8 (drop m a) ≢ big_number 8 (drop m b) = λ s. n ((λ i. bit_xor ((p ∙ s ∙ sym q) i) y) ∙ xor_self y) in
    (λ i. m + count_leading_zeros 64 (bit_xor (p i) (q i)) / 8)
    ∙ ap (λ k. m + k) (sym (shared_of_words 8 (drop m a) (drop m b) (IsBytes-drop m a c) (IsBytes-drop m b d) (omega (arith, length-drop m a, h)) (omega (arith, length-drop m b, l)) other))
    ∙ shared_prefix_behind m a b (omega (arith, h)) (omega (arith, l)) e
