-- One bit of a byte string.
use Rattle.std.proofs.Common.{◌≡◌, ◌≢◌, ◌<◌, ℕ, ◌-◌, ◌*◌, ◌/◌, ◌%◌, ◌^◌, ◌⊎◌, inl, inr, max, suc, zero, List, length, get_or, sym, ap, ◌∙◌, refl, arith}
use Rattle.std.proofs.Math.ListN.{set}
use Rattle.std.specs.Prelude.{◌↔◌, bit_or, bit_and, nat_lt, IsTrue}
use Rattle.std.proofs.lemmas.Bool.{ltb-true, lt-ltb}
use Rattle.std.specs.Int.{bit_at}
use Rattle.std.proofs.lemmas.List.{get_or-set_same, get_or-set_other}
use Rattle.std.proofs.lemmas.Nat.Bits.{bit_at_or, bit_at-pow_same, bit_at-pow_other, bit_at-lt, and_pow}
use Rattle.std.proofs.lemmas.Nat.{pow_pos}
use Rattle.std.proofs.lemmas.Bool.{cases_eq}
use Rattle.sstable_blocks.specs.Bits.{HasBit}

-- the mask of an index
pub mask_is : (index : ℕ) → index < 8 → 128 / 2 ^ index ≡ 2 ^ (7 - index)
mask_is zero h = refl
mask_is (suc zero) h = refl
mask_is (suc (suc zero)) h = refl
mask_is (suc (suc (suc zero))) h = refl
mask_is (suc (suc (suc (suc zero)))) h = refl
mask_is (suc (suc (suc (suc (suc zero))))) h = refl
mask_is (suc (suc (suc (suc (suc (suc zero)))))) h = refl
mask_is (suc (suc (suc (suc (suc (suc (suc zero))))))) h = refl
mask_is (suc (suc (suc (suc (suc (suc (suc (suc n)))))))) h = absurd (omega arith)

-- no number is below 0
max_zero : (x : ℕ) → max x 0 ≡ x
max_zero x = omega arith

-- a bit times a power is above 0 exactly if the bit is 1
tested : (n b p : ℕ) → n ≡ b * p → b < 2 → 0 < p → (0 < n) ↔ (b ≡ 1)
tested n zero p e h k = (λ g. absurd (omega arith), λ g. absurd (omega arith))
tested n (suc zero) p e h k = (λ g. refl, λ g. omega arith)
tested n (suc (suc b)) p e h k = absurd (omega arith)

-- the bit that was set is 1
bit_set : (x b r s : ℕ) → b ≡ bit_or x (2 ^ (7 - r)) → s ≡ r → bit_at b (7 - s) ≡ 1
bit_set x b r s e same =
    let one : bit_at (2 ^ (7 - r)) (7 - r) ≡ 1 = bit_at-pow_same (7 - r) in
    let both : bit_at (bit_or x (2 ^ (7 - r))) (7 - r) ≡ max (bit_at x (7 - r)) (bit_at (2 ^ (7 - r)) (7 - r)) = bit_at_or x (2 ^ (7 - r)) (7 - r) in
    let below : bit_at x (7 - r) < 2 = bit_at-lt x (7 - r) in
    let most : max (bit_at x (7 - r)) 1 ≡ 1 = omega arith in
    ap (λ n. bit_at b (7 - n)) same ∙ ap (λ n. bit_at n (7 - r)) e ∙ both ∙ ap (max (bit_at x (7 - r))) one ∙ most

-- the other bits stay
bit_kept : (x b r s : ℕ) → b ≡ bit_or x (2 ^ (7 - r)) → r < 8 → s < 8 → s ≢ r → bit_at b (7 - s) ≡ bit_at x (7 - s)
bit_kept x b r s e h k ne =
    let apart : 7 - s ≢ 7 - r = λ (q : 7 - s ≡ 7 - r). ne (omega arith) in
    let none : bit_at (2 ^ (7 - r)) (7 - s) ≡ 0 = bit_at-pow_other (7 - r) (7 - s) apart in
    let both : bit_at (bit_or x (2 ^ (7 - r))) (7 - s) ≡ max (bit_at x (7 - s)) (bit_at (2 ^ (7 - r)) (7 - s)) = bit_at_or x (2 ^ (7 - r)) (7 - s) in
    ap (λ n. bit_at n (7 - s)) e ∙ both ∙ ap (max (bit_at x (7 - s))) none ∙ max_zero (bit_at x (7 - s))

-- a byte with a bit more, in its place: one bit more
pub enabled : (bits : List ℕ) (index b : ℕ) → index < 8 * length bits → b ≡ bit_or (get_or bits (index / 8) 0) (2 ^ (7 - index % 8))
    → (i : ℕ) → HasBit (set bits (index / 8) b) i ↔ (HasBit bits i ⊎ (i ≡ index))
enabled bits index b h e i =
    let inside : index / 8 < length bits = omega arith in
    elim (cases_eq (i / 8) (index / 8)) [
      | inl byte ↦
          (let here : get_or (set bits (index / 8) b) (i / 8) 0 ≡ b = ap (λ n. get_or (set bits (index / 8) b) n 0) byte ∙ get_or-set_same bits (index / 8) b 0 inside in
          elim (cases_eq (i % 8) (index % 8)) [
            | inl same ↦
                (let is : i ≡ index = omega arith in
                (λ g. inr is, λ g. ap (λ n. bit_at n (7 - i % 8)) here ∙ bit_set (get_or bits (index / 8) 0) b (index % 8) (i % 8) e same))
            | inr ne ↦
                (let kept : bit_at (get_or (set bits (index / 8) b) (i / 8) 0) (7 - i % 8) ≡ bit_at (get_or bits (i / 8) 0) (7 - i % 8) =
                ap (λ n. bit_at n (7 - i % 8)) here
                ∙ bit_kept (get_or bits (index / 8) 0) b (index % 8) (i % 8) e (omega arith) (omega arith) ne
                ∙ ap (λ n. bit_at (get_or bits n 0) (7 - i % 8)) (sym byte) in
                (λ g. inl (sym kept ∙ g), λ g. elim g [ inl old ↦ kept ∙ old | inr is ↦ absurd (ne (ap (λ n. n % 8) is)) ]))
          ])
      | inr ne ↦
          (let kept : bit_at (get_or (set bits (index / 8) b) (i / 8) 0) (7 - i % 8) ≡ bit_at (get_or bits (i / 8) 0) (7 - i % 8) =
          ap (λ n. bit_at n (7 - i % 8)) (get_or-set_other bits (index / 8) (i / 8) b 0 ne) in
          (λ g. inl (sym kept ∙ g), λ g. elim g [ inl old ↦ kept ∙ old | inr is ↦ absurd (ne (ap (λ n. n / 8) is)) ]))
    ]

-- a bit is tested by its power
pub bit_tested : (x r : ℕ) → (0 < bit_and x (2 ^ (7 - r))) ↔ (bit_at x (7 - r) ≡ 1)
bit_tested x r =
    let cut : bit_and x (2 ^ (7 - r)) ≡ bit_at x (7 - r) * 2 ^ (7 - r) = and_pow x (7 - r) in
    let below : bit_at x (7 - r) < 2 = bit_at-lt x (7 - r) in
    let some : 0 < 2 ^ (7 - r) = pow_pos (7 - r) in
    tested (bit_and x (2 ^ (7 - r))) (bit_at x (7 - r)) (2 ^ (7 - r)) cut below some

-- and by its mask
pub bit_read : (x i : ℕ) → i < 8 → IsTrue (nat_lt 0 (bit_and x (128 / 2 ^ i))) ↔ (bit_at x (7 - i) ≡ 1)
bit_read x i h = rw mask_is ((λ g. (bit_tested x i).0 (ltb-true 0 _ g), λ g. lt-ltb 0 _ ((bit_tested x i).1 g)))
