-- Laws of the big-endian numbers of byte strings, and of their first bytes.
use Rattle.std.proofs.Common.{◌≡◌, ◌≢◌, ℕ, zero, suc, ◌+◌, ◌*◌, ◌^◌, ◌<◌, ◌≤◌, inl, inr, List, [], ◌∷◌, length, refl, arith, sym, ◌∙◌, ap}
use Rattle.std.proofs.Math.Nat.{mul-le-mul_right, pow-succ'}
use Rattle.std.proofs.lemmas.Bool.{cases_lt}
use Rattle.std.proofs.lemmas.Nat.{pow-add}
use Rattle.std.specs.Cmp.{nat_cmp_is}
use Rattle.std.specs.Cmp.Lexicographic.{slice_cmp}
use Rattle.std.specs.Ordering.{nat_cmp, ordering_then}
use Rattle.std.specs.declared.cmp.Ordering.TheVariants.{Less, Equal, Greater}
use Rattle.byteorder.specs.Endian.{big_number, big_from}
use Rattle.byteorder.specs.Numbers.{big_from-cons, big_from-lt}
use Rattle.sst_base.specs.Bytes.{IsBytes}
use Rattle.sst_base.specs.OrderLaws.{nat_cmp-add_left}

-- a greater first byte outweighs all others
first_decides : (x y p r s : ℕ) → x < y → r < p → x * p + r < y * p + s
first_decides x y p r s h k = let m : (x + 1) * p ≤ y * p = mul-le-mul_right p (omega arith) in omega arith

-- a number with one byte before it
pub big_number-cons : (n b : ℕ) (bs : List ℕ) → big_number (suc n) (b ∷ bs) ≡ b * 256 ^ n + big_number n bs
big_number-cons n b bs = ap (λ m. b * 256 ^ n + m) (big_from-cons 0 n b bs)

-- byte strings of one length are in the order of their numbers, the highest byte first
pub slice_cmp-big_number : (n : ℕ) (xs ys : List ℕ) → IsBytes xs → IsBytes ys → length xs ≡ n → length ys ≡ n → slice_cmp nat_cmp xs ys ≡ nat_cmp (big_number n xs) (big_number n ys)
slice_cmp-big_number zero [] [] b c h k = refl
slice_cmp-big_number zero [] (y ∷ ys) b c h k = absurd (omega arith)
slice_cmp-big_number zero (x ∷ xs) ys b c h k = absurd (omega arith)
slice_cmp-big_number (suc n) [] ys b c h k = absurd (omega arith)
slice_cmp-big_number (suc n) (x ∷ xs) [] b c h k = absurd (omega arith)
slice_cmp-big_number (suc n) (x ∷ xs) (y ∷ ys) b c h k =
    let p = 256 ^ n in
    let r = big_from-lt 0 n xs (λ i. b (suc i)) in
    let s = big_from-lt 0 n ys (λ i. c (suc i)) in
    let left = big_number-cons n x xs in
    let right = big_number-cons n y ys in
    elim (cases_lt x y) [
      | inl less ↦
          ap (λ o. ordering_then o (slice_cmp nat_cmp xs ys)) (sym (nat_cmp_is x y Less less))
          ∙ nat_cmp_is (big_number (suc n) (x ∷ xs)) (big_number (suc n) (y ∷ ys)) Less (rw (left, right) (first_decides x y p (big_number n xs) (big_number n ys) less r))
      | inr more ↦ elim (cases_lt y x) [
        | inl greater ↦
            ap (λ o. ordering_then o (slice_cmp nat_cmp xs ys)) (sym (nat_cmp_is x y Greater greater))
            ∙ nat_cmp_is (big_number (suc n) (x ∷ xs)) (big_number (suc n) (y ∷ ys)) Greater (rw (left, right) (first_decides y x p (big_number n ys) (big_number n xs) greater s))
        | inr most ↦
            (let e : x ≡ y = omega arith in
            ap (λ o. ordering_then o (slice_cmp nat_cmp xs ys)) (sym (nat_cmp_is x y Equal e))
            ∙ slice_cmp-big_number n xs ys (λ i. b (suc i)) (λ i. c (suc i)) (omega arith) (omega arith)
            ∙ sym (nat_cmp-add_left (x * p) (big_number n xs) (big_number n ys))
            ∙ (λ i. nat_cmp (sym left i) ((ap (λ z. z * p + big_number n ys) e ∙ sym right) i)))
      ]
    ]

-- a byte has 8 bits
pub pow_256 : (k : ℕ) → 256 ^ k ≡ 2 ^ (8 * k)
pow_256 zero = refl
pow_256 (suc k) =
    let e = pow_256 k in
    let a : 2 ^ (8 * suc k) ≡ 2 ^ (8 * k) * 2 ^ 8 = ap (λ n. 2 ^ n) (omega arith) ∙ pow-add 2 (8 * k) 8 in
    omega (arith, pow-succ' 256 k, e, a)

-- past the end there are zeros
pub number_past_end : (i n : ℕ) → big_from i n [] ≡ 0
number_past_end i zero = refl
number_past_end i (suc n) = let e = number_past_end (suc i) n in omega (arith, e)

-- where the numbers of the first n bytes of two strings differ, the strings have the order of the numbers
pub numbers_decide : (n : ℕ) (xs ys : List ℕ) → IsBytes xs → IsBytes ys → big_number n xs ≢ big_number n ys → nat_cmp (big_number n xs) (big_number n ys) ≡ slice_cmp nat_cmp xs ys
numbers_decide zero xs ys b c ne = absurd (ne refl)
numbers_decide (suc n) [] [] b c ne = absurd (ne refl)
numbers_decide (suc n) [] (y ∷ ys) b c ne =
    let e = number_past_end 0 (suc n) in sym (nat_cmp_is (big_number (suc n) []) (big_number (suc n) (y ∷ ys)) Less (omega (arith, e, ne)))
numbers_decide (suc n) (x ∷ xs) [] b c ne =
    let e = number_past_end 0 (suc n) in sym (nat_cmp_is (big_number (suc n) (x ∷ xs)) (big_number (suc n) []) Greater (omega (arith, e, ne)))
numbers_decide (suc n) (x ∷ xs) (y ∷ ys) b c ne =
    let p = 256 ^ n in
    let r = big_from-lt 0 n xs (λ i. b (suc i)) in
    let s = big_from-lt 0 n ys (λ i. c (suc i)) in
    let left = big_number-cons n x xs in
    let right = big_number-cons n y ys in
    elim (cases_lt x y) [
      | inl less ↦
          sym (nat_cmp_is (big_number (suc n) (x ∷ xs)) (big_number (suc n) (y ∷ ys)) Less (rw (left, right) (first_decides x y p (big_number n xs) (big_number n ys) less r)))
          ∙ ap (λ o. ordering_then o (slice_cmp nat_cmp xs ys)) (nat_cmp_is x y Less less)
      | inr more ↦ elim (cases_lt y x) [
        | inl greater ↦
            sym (nat_cmp_is (big_number (suc n) (x ∷ xs)) (big_number (suc n) (y ∷ ys)) Greater (rw (left, right) (first_decides y x p (big_number n ys) (big_number n xs) greater s)))
            ∙ ap (λ o. ordering_then o (slice_cmp nat_cmp xs ys)) (nat_cmp_is x y Greater greater)
        | inr most ↦
            (let e : x ≡ y = omega arith in
            let apart : big_number n xs ≢ big_number n ys = λ q. ne (left ∙ (λ i. e i * p + q i) ∙ sym right) in
            (λ i. nat_cmp (left i) ((right ∙ sym (ap (λ z. z * p + big_number n ys) e)) i))
            ∙ nat_cmp-add_left (x * p) (big_number n xs) (big_number n ys)
            ∙ numbers_decide n xs ys (λ i. b (suc i)) (λ i. c (suc i)) apart
            ∙ ap (λ o. ordering_then o (slice_cmp nat_cmp xs ys)) (nat_cmp_is x y Equal e))
      ]
    ]
