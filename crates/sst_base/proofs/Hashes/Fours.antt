-- The polynomial hash of four bytes in one step.
use Rattle.std.proofs.Common.{◌≡◌, ℕ, ◌+◌, ◌*◌, ◌%◌, ◌^◌, ◌≤◌, zero, suc, List, [], ◌∷◌, length, take, drop, arith, sym, ◌∙◌, ap}
use Rattle.std.specs.List.{fold}
use Rattle.byteorder.specs.Endian.{big_number}
use Rattle.sst_base.specs.Bytes.{IsBytes}
use Rattle.sst_base.specs.Hashes.{times31, poly31_from}
use Rattle.sst_base.specs.HashLaws.{add-mod_first}
use Rattle.sst_base.proofs.Hashes.Polynomials.{tail_more}

-- a 0 before bytes
zero_first : (bytes : List ℕ) → IsBytes bytes → IsBytes (0 ∷ bytes)
zero_first bytes small zero = omega arith
zero_first bytes small (suc i) = small i

-- the hash of the first four bytes, by the hash of eight bytes of which the first four are 0
pub four_first : (bytes : List ℕ) (w r : ℕ) → IsBytes bytes → 4 ≤ length bytes → w ≡ big_number 4 bytes
    → ((xs : List ℕ) → IsBytes xs → 8 ≤ length xs → w ≡ big_number 8 xs → r ≡ fold times31 0 (take 8 xs))
    → r ≡ fold times31 0 (take 4 bytes)
four_first [] w r small long p q = absurd (omega arith)
four_first (a ∷ []) w r small long p q = absurd (omega arith)
four_first (a ∷ b ∷ []) w r small long p q = absurd (omega arith)
four_first (a ∷ b ∷ c ∷ []) w r small long p q = absurd (omega arith)
four_first (a ∷ b ∷ c ∷ d ∷ bytes) w r small long p q =
    let xs = a ∷ b ∷ c ∷ d ∷ bytes in
    let front = zero_first (0 ∷ 0 ∷ 0 ∷ xs) (zero_first (0 ∷ 0 ∷ xs) (zero_first (0 ∷ xs) (zero_first xs small))) in
    let k = q (0 ∷ 0 ∷ 0 ∷ 0 ∷ xs) front (omega arith) (omega (arith, p)) in
    omega (arith, k)

-- four bytes more
four_steps : (h : ℕ) (bytes : List ℕ) → 4 ≤ length bytes → fold times31 h (take 4 bytes) ≡ h * 923521 + fold times31 0 (take 4 bytes)
four_steps h [] l = absurd (omega arith)
four_steps h (a ∷ []) l = absurd (omega arith)
four_steps h (a ∷ b ∷ []) l = absurd (omega arith)
four_steps h (a ∷ b ∷ c ∷ []) l = absurd (omega arith)
four_steps h (a ∷ b ∷ c ∷ d ∷ bytes) l = omega arith

-- four bytes more, and those after them
pub four_more : (bits from : ℕ) (bytes tail : List ℕ) (product v hash r : ℕ) → 4 ≤ length bytes → product ≡ (from * 923521) % 2 ^ bits → v ≡ fold times31 0 (take 4 bytes)
    → hash ≡ (product + v) % 2 ^ bits → tail ≡ drop 4 bytes → r ≡ poly31_from bits hash tail → r ≡ poly31_from bits from bytes
four_more bits from bytes tail product v hash r l p q h t e =
    let four : hash ≡ poly31_from bits from (take 4 bytes) =
    h ∙ ap (λ k. (k + v) % 2 ^ bits) p ∙ add-mod_first (from * 923521) v (2 ^ bits)
    ∙ ap (λ k. k % 2 ^ bits) (ap (λ k. from * 923521 + k) q ∙ sym (four_steps from bytes l)) in
    tail_more bits from bytes tail 4 hash r four t e
