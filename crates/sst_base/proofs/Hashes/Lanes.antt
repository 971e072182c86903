-- The polynomial hash of the eight bytes of a word, side by side: pairs of bytes in lanes of 16 bits, fours in lanes of 32.
use Rattle.std.proofs.Common.{◌≡◌, ℕ, ◌+◌, ◌*◌, ◌/◌, ◌<◌, ◌≤◌, List, [], ◌∷◌, length, take, arith, ◌∙◌, ap}
use Rattle.std.specs.List.{fold}
use Rattle.std.specs.Prelude.{bit_and}
use Rattle.std.proofs.lemmas.Nat.{and_mask, and_block, div-mul-add, mod-mul-add}
use Rattle.byteorder.specs.Endian.{big_number}
use Rattle.sst_base.specs.Bytes.{IsBytes}
use Rattle.sst_base.specs.Hashes.{times31}

-- the masks of every other byte, and of every other pair of bytes
abbrev pub every_other_byte : ℕ
every_other_byte = 71777214294589695

abbrev pub every_other_pair : ℕ
every_other_pair = 281470681808895

-- the second of two lanes
second_byte : (a b : ℕ) → b < 256 → bit_and (a * 256 + b) 255 ≡ b
second_byte a b h = and_mask (a * 256 + b) 8 ∙ mod-mul-add a 256 b h

second_pair : (a b : ℕ) → b < 65536 → bit_and (a * 65536 + b) 65535 ≡ b
second_pair a b h = and_mask (a * 65536 + b) 16 ∙ mod-mul-add a 65536 b h

-- two bytes more, of which the second is kept
one_kept : (m x y a b : ℕ) → a < 256 → b < 256 → bit_and x m ≡ y → bit_and ((x * 256 + a) * 256 + b) (m * 65536 + 255) ≡ y * 65536 + b
one_kept m x y a b h k e =
    let join : (x * 256 + a) * 256 + b ≡ x * 65536 + (a * 256 + b) = omega arith in
    ap (λ n. bit_and n (m * 65536 + 255)) join ∙ and_block 16 x m (a * 256 + b) 255 (omega arith) (omega arith)
    ∙ (λ i. e i * 65536 + second_byte a b k i)

bytes_kept : (a b c d e f g h : ℕ) → a < 256 → b < 256 → c < 256 → d < 256 → e < 256 → f < 256 → g < 256 → h < 256
    → bit_and (((((((a * 256 + b) * 256 + c) * 256 + d) * 256 + e) * 256 + f) * 256 + g) * 256 + h) every_other_byte ≡ ((b * 65536 + d) * 65536 + f) * 65536 + h
bytes_kept a b c d e f g h p q r s t u v w =
    one_kept 1095233372415 (((((a * 256 + b) * 256 + c) * 256 + d) * 256 + e) * 256 + f) ((b * 65536 + d) * 65536 + f) g h v w
    (one_kept 16711935 (((a * 256 + b) * 256 + c) * 256 + d) (b * 65536 + d) e f t u
    (one_kept 255 (a * 256 + b) b c d r s (second_byte a b q)))

pairs_kept : (a b c d : ℕ) → a < 65536 → b < 65536 → c < 65536 → d < 65536 → bit_and (((a * 65536 + b) * 65536 + c) * 65536 + d) every_other_pair ≡ b * 4294967296 + d
pairs_kept a b c d p q r s =
    let join : ((a * 65536 + b) * 65536 + c) * 65536 + d ≡ (a * 65536 + b) * 4294967296 + (c * 65536 + d) = omega arith in
    ap (λ n. bit_and n every_other_pair) join ∙ and_block 32 (a * 65536 + b) 65535 (c * 65536 + d) 65535 (omega arith) (omega arith)
    ∙ (λ i. second_pair a b q i * 4294967296 + second_pair c d s i)

-- eight bytes by their word
lanes : (a b c d e f g h w x y z : ℕ) → a < 256 → b < 256 → c < 256 → d < 256 → e < 256 → f < 256 → g < 256 → h < 256
    → w ≡ (((((((a * 256 + b) * 256 + c) * 256 + d) * 256 + e) * 256 + f) * 256 + g) * 256 + h)
    → x ≡ bit_and (w / 256) every_other_byte * 31 + bit_and w every_other_byte
    → y ≡ bit_and (x / 65536) every_other_pair * 961 + bit_and x every_other_pair
    → z ≡ y / 4294967296 * 923521 + bit_and y 4294967295
    → z ≡ ((((((a * 31 + b) * 31 + c) * 31 + d) * 31 + e) * 31 + f) * 31 + g) * 31 + h
lanes a b c d e f g h w x y z pa pb pc pd pe pf pg ph w_is x_is y_is z_is =
    let front = (((((a * 256 + b) * 256 + c) * 256 + d) * 256 + e) * 256 + f) * 256 + g in
    let front_is : front ≡ (((((((0 * 256 + a) * 256 + b) * 256 + c) * 256 + d) * 256 + e) * 256 + f) * 256 + g) = omega arith in
    let odd : bit_and w every_other_byte ≡ ((b * 65536 + d) * 65536 + f) * 65536 + h = ap (λ n. bit_and n every_other_byte) w_is ∙ bytes_kept a b c d e f g h pa pb pc pd pe pf pg ph in
    let even : bit_and (w / 256) every_other_byte ≡ ((a * 65536 + c) * 65536 + e) * 65536 + g =
    ap (λ n. bit_and n every_other_byte) (ap (λ n. n / 256) w_is ∙ div-mul-add front 256 h ph ∙ front_is) ∙ bytes_kept 0 a b c d e f g (omega arith) pa pb pc pd pe pf pg in
    let p0 = a * 31 + b in
    let p1 = c * 31 + d in
    let p2 = e * 31 + f in
    let p3 = g * 31 + h in
    let x_pairs : x ≡ ((p0 * 65536 + p1) * 65536 + p2) * 65536 + p3 = omega (arith, x_is, odd, even) in
    let x_odd : bit_and x every_other_pair ≡ p1 * 4294967296 + p3 = ap (λ n. bit_and n every_other_pair) x_pairs ∙ pairs_kept p0 p1 p2 p3 (omega arith) (omega arith) (omega arith) (omega arith) in
    let x_front : x / 65536 ≡ ((0 * 65536 + p0) * 65536 + p1) * 65536 + p2 =
    ap (λ n. n / 65536) x_pairs ∙ div-mul-add ((p0 * 65536 + p1) * 65536 + p2) 65536 p3 (omega arith) ∙ omega arith in
    let x_even : bit_and (x / 65536) every_other_pair ≡ p0 * 4294967296 + p2 = ap (λ n. bit_and n every_other_pair) x_front ∙ pairs_kept 0 p0 p1 p2 (omega arith) (omega arith) (omega arith) (omega arith) in
    let q0 = p0 * 961 + p1 in
    let q1 = p2 * 961 + p3 in
    let y_fours : y ≡ q0 * 4294967296 + q1 = omega (arith, y_is, x_odd, x_even) in
    let high : y / 4294967296 ≡ q0 = ap (λ n. n / 4294967296) y_fours ∙ div-mul-add q0 4294967296 q1 (omega arith) in
    let low : bit_and y 4294967295 ≡ q1 = ap (λ n. bit_and n 4294967295) y_fours ∙ and_mask (q0 * 4294967296 + q1) 32 ∙ mod-mul-add q0 4294967296 q1 (omega arith) in
    omega (arith, z_is, high, low)

-- the hash of the first eight bytes by the word that they are
pub word_hash_is : (bytes : List ℕ) (w x y z : ℕ) → IsBytes bytes → 8 ≤ length bytes → w ≡ big_number 8 bytes
    → x ≡ bit_and (w / 256) every_other_byte * 31 + bit_and w every_other_byte
    → y ≡ bit_and (x / 65536) every_other_pair * 961 + bit_and x every_other_pair
    → z ≡ y / 4294967296 * 923521 + bit_and y 4294967295
    → z ≡ fold times31 0 (take 8 bytes)
word_hash_is [] w x y z small long p q r s = absurd (omega arith)
word_hash_is (a ∷ []) w x y z small long p q r s = absurd (omega arith)
word_hash_is (a ∷ b ∷ []) w x y z small long p q r s = absurd (omega arith)
word_hash_is (a ∷ b ∷ c ∷ []) w x y z small long p q r s = absurd (omega arith)
word_hash_is (a ∷ b ∷ c ∷ d ∷ []) w x y z small long p q r s = absurd (omega arith)
word_hash_is (a ∷ b ∷ c ∷ d ∷ e ∷ []) w x y z small long p q r s = absurd (omega arith)
word_hash_is (a ∷ b ∷ c ∷ d ∷ e ∷ f ∷ []) w x y z small long p q r s = absurd (omega arith)
word_hash_is (a ∷ b ∷ c ∷ d ∷ e ∷ f ∷ g ∷ []) w x y z small long p q r s = absurd (omega arith)
word_hash_is (a ∷ b ∷ c ∷ d ∷ e ∷ f ∷ g ∷ h ∷ bytes) w x y z small long p q r s =
    let k = lanes a b c d e f g h w x y z (small 0) (small 1) (small 2) (small 3) (small 4) (small 5) (small 6) (small 7) (omega (arith, p)) q r s in
    omega (arith, k)
