-- Varints of one to four bytes, by the first bytes.
use Rattle.std.proofs.Common.{◌≡◌, ℕ, ◌+◌, ◌*◌, ◌-◌, ◌<◌, ◌≤◌, List, [], ◌∷◌, length, take, get_or, arith, sym, ap, subst, ◌∙◌, Option, Some}
use Rattle.sst_base.specs.Bytes.{IsBytes}
use Rattle.sst_base.specs.Varint.{IsVarint, IsWidth, varint_at}
use Rattle.sst_base.specs.VarintLaws.{varint_at_found, varint_at_small, varint_at_two, varint_at_three, varint_at_four}

pub one_byte : (bits : ℕ) (bytes : List ℕ) (x : ℕ) → IsWidth bits → 1 ≤ length bytes → get_or bytes 0 0 < 128 → x ≡ get_or bytes 0 0 → Some (x, 1) ≡ varint_at bits bytes
one_byte bits [] x w h p e = absurd (omega arith)
one_byte bits (a ∷ bs) x w h p e = ap (λ n. Some (n, 1)) e ∙ sym (varint_at_small bits a bs w p)

pub two_bytes : (bits : ℕ) (bytes : List ℕ) (x y : ℕ) → IsWidth bits → IsBytes bytes → 2 ≤ length bytes
    → 128 ≤ get_or bytes 0 0 → 0 < get_or bytes 1 0 → get_or bytes 1 0 < 128
    → x ≡ get_or bytes 0 0 - 128 → y ≡ get_or bytes 1 0 → Some (x + 128 * y, 2) ≡ varint_at bits bytes
two_bytes bits [] x y w small h p q r e f = absurd (omega arith)
two_bytes bits (a ∷ []) x y w small h p q r e f = absurd (omega arith)
two_bytes bits (a ∷ b ∷ bs) x y w small h p q r e f =
    ap (λ n. Some (n, 2)) (λ i. e i + 128 * f i) ∙ sym (varint_at_two bits a b bs w p (small 0) q r)

pub three_bytes : (bits : ℕ) (bytes : List ℕ) (x y z : ℕ) → IsWidth bits → 16 < bits → IsBytes bytes → 3 ≤ length bytes
    → 128 ≤ get_or bytes 0 0 → 128 ≤ get_or bytes 1 0 → 0 < get_or bytes 2 0 → get_or bytes 2 0 < 128
    → x ≡ get_or bytes 0 0 - 128 → y ≡ get_or bytes 1 0 - 128 → z ≡ get_or bytes 2 0
    → Some ((x + 128 * y) + 16384 * z, 3) ≡ varint_at bits bytes
three_bytes bits [] x y z w wide small h p q r s e f g = absurd (omega arith)
three_bytes bits (a ∷ []) x y z w wide small h p q r s e f g = absurd (omega arith)
three_bytes bits (a ∷ b ∷ []) x y z w wide small h p q r s e f g = absurd (omega arith)
three_bytes bits (a ∷ b ∷ c ∷ bs) x y z w wide small h p q r s e f g =
    ap (λ n. Some (n, 3)) (λ i. (e i + 128 * f i) + 16384 * g i) ∙ sym (varint_at_three bits a b c bs w (omega arith) p (small 0) q (small 1) r s)

pub four_bytes : (bits : ℕ) (bytes : List ℕ) (x y z w : ℕ) → IsWidth bits → 16 < bits → IsBytes bytes → 4 ≤ length bytes
    → 128 ≤ get_or bytes 0 0 → 128 ≤ get_or bytes 1 0 → 128 ≤ get_or bytes 2 0 → 0 < get_or bytes 3 0 → get_or bytes 3 0 < 128
    → x ≡ get_or bytes 0 0 - 128 → y ≡ get_or bytes 1 0 - 128 → z ≡ get_or bytes 2 0 - 128 → w ≡ get_or bytes 3 0
    → Some (((x + 128 * y) + 16384 * z) + 2097152 * w, 4) ≡ varint_at bits bytes
four_bytes bits [] x y z w is wide small h p q r s t e f g k = absurd (omega arith)
four_bytes bits (a ∷ []) x y z w is wide small h p q r s t e f g k = absurd (omega arith)
four_bytes bits (a ∷ b ∷ []) x y z w is wide small h p q r s t e f g k = absurd (omega arith)
four_bytes bits (a ∷ b ∷ c ∷ []) x y z w is wide small h p q r s t e f g k = absurd (omega arith)
four_bytes bits (a ∷ b ∷ c ∷ d ∷ bs) x y z w is wide small h p q r s t e f g k =
    ap (λ n. Some (n, 4)) (λ i. ((e i + 128 * f i) + 16384 * g i) + 2097152 * k i)
    ∙ sym (varint_at_four bits a b c d bs is (omega arith) p (small 0) q (small 1) r (small 2) s t)

-- a number takes a byte or more
pub takes_some : (bits : ℕ) (bytes : List ℕ) (n len : ℕ) → IsBytes bytes → bits ≤ 64 → ◌≡◌ {A = Option (ℕ × ℕ)} (Some (n, len)) (varint_at bits bytes) → len ≡ 0 → ⊥
takes_some bits bytes n len c w e z = subst (λ k. IsVarint (take k bytes) n) z (varint_at_found bits bytes (Some (n, len)) c w e).2
