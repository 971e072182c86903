-- The polynomial hashes of four bytes each, in lanes.
use Rattle.std.proofs.Common.{◌≡◌, ℕ, ◌+◌, ◌*◌, ◌%◌, ◌^◌, ◌<◌, ◌≤◌, List, [], ◌∷◌, length, take, arith}
use lib.Lanes.{zip2, pair_sums, dots}
use Rattle.sst_base.specs.Bytes.{IsBytes}
use Rattle.sst_base.specs.Hashes.{IsFours}

-- one lane: the weighted sums of two bytes and of the other two, joined
lane : (a b c d : ℕ) → a < 256 → b < 256 → c < 256 → d < 256
    → ((((a * 31 + b * 1) + (c * 0 + d * 0)) * 961) % 2 ^ 32 + ((a * 0 + b * 0) + (c * 31 + d * 1))) % 2 ^ 32 ≡ (((0 * 31 + a) * 31 + b) * 31 + c) * 31 + d
lane a b c d p q r s = omega arith

-- the lanes of the first sixteen bytes
pub fours_in_lanes : (bytes : List ℕ) → IsBytes bytes → 16 ≤ length bytes
    → IsFours bytes (zip2 (λ a b. (a + b) % 2 ^ 32) (zip2 (λ a b. (a * b) % 2 ^ 32)
    (pair_sums (pair_sums (zip2 {A = ℕ} {B = ℕ} {C = ℕ} (λ x y. x * y) (take 16 bytes) (31 ∷ 1 ∷ 0 ∷ 0 ∷ 31 ∷ 1 ∷ 0 ∷ 0 ∷ 31 ∷ 1 ∷ 0 ∷ 0 ∷ 31 ∷ 1 ∷ 0 ∷ 0 ∷ []))))
    (961 ∷ 961 ∷ 961 ∷ 961 ∷ []))
    (dots (take 16 bytes) (0 ∷ 0 ∷ 31 ∷ 1 ∷ 0 ∷ 0 ∷ 31 ∷ 1 ∷ 0 ∷ 0 ∷ 31 ∷ 1 ∷ 0 ∷ 0 ∷ 31 ∷ 1 ∷ [])))
fours_in_lanes [] small long = absurd (omega arith)
fours_in_lanes (a ∷ []) small long = absurd (omega arith)
fours_in_lanes (a ∷ b ∷ []) small long = absurd (omega arith)
fours_in_lanes (a ∷ b ∷ c ∷ []) small long = absurd (omega arith)
fours_in_lanes (a ∷ b ∷ c ∷ d ∷ []) small long = absurd (omega arith)
fours_in_lanes (a ∷ b ∷ c ∷ d ∷ e ∷ []) small long = absurd (omega arith)
fours_in_lanes (a ∷ b ∷ c ∷ d ∷ e ∷ f ∷ []) small long = absurd (omega arith)
fours_in_lanes (a ∷ b ∷ c ∷ d ∷ e ∷ f ∷ g ∷ []) small long = absurd (omega arith)
fours_in_lanes (a ∷ b ∷ c ∷ d ∷ e ∷ f ∷ g ∷ h ∷ []) small long = absurd (omega arith)
fours_in_lanes (a ∷ b ∷ c ∷ d ∷ e ∷ f ∷ g ∷ h ∷ i ∷ []) small long = absurd (omega arith)
fours_in_lanes (a ∷ b ∷ c ∷ d ∷ e ∷ f ∷ g ∷ h ∷ i ∷ j ∷ []) small long = absurd (omega arith)
fours_in_lanes (a ∷ b ∷ c ∷ d ∷ e ∷ f ∷ g ∷ h ∷ i ∷ j ∷ k ∷ []) small long = absurd (omega arith)
fours_in_lanes (a ∷ b ∷ c ∷ d ∷ e ∷ f ∷ g ∷ h ∷ i ∷ j ∷ k ∷ l ∷ []) small long = absurd (omega arith)
fours_in_lanes (a ∷ b ∷ c ∷ d ∷ e ∷ f ∷ g ∷ h ∷ i ∷ j ∷ k ∷ l ∷ m ∷ []) small long = absurd (omega arith)
fours_in_lanes (a ∷ b ∷ c ∷ d ∷ e ∷ f ∷ g ∷ h ∷ i ∷ j ∷ k ∷ l ∷ m ∷ n ∷ []) small long = absurd (omega arith)
fours_in_lanes (a ∷ b ∷ c ∷ d ∷ e ∷ f ∷ g ∷ h ∷ i ∷ j ∷ k ∷ l ∷ m ∷ n ∷ o ∷ []) small long = absurd (omega arith)
fours_in_lanes (a ∷ b ∷ c ∷ d ∷ e ∷ f ∷ g ∷ h ∷ i ∷ j ∷ k ∷ l ∷ m ∷ n ∷ o ∷ p ∷ bytes) small long = λ z.
    lane a b c d (small 0) (small 1) (small 2) (small 3) z
    ∷ lane e f g h (small 4) (small 5) (small 6) (small 7) z
    ∷ lane i j k l (small 8) (small 9) (small 10) (small 11) z
    ∷ lane m n o p (small 12) (small 13) (small 14) (small 15) z
    ∷ []
