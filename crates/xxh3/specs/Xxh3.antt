-- XXH3 (xxHash 0.8) with the seed 0: a hash of 64 bits and one of 128 bits. A word is a number below
-- 2 ^ 64; messages and the secret are lists of bytes. The first argument of most is the secret.
use Rattle.std.specs.Prelude.{ℕ, zero, suc, ◌+◌, ◌-◌, ◌*◌, ◌/◌, ◌%◌, ◌^◌, ◌==◌, nat_le, if◌then◌else◌, List, [], ◌∷◌, length, drop, map, bit_xor, slice_index}
use Rattle.std.specs.Int.{w32, w64, swap_bytes, rotate_left}
use Rattle.std.specs.Simd.Lanes.{zip2}
use Rattle.byteorder.specs.Endian.{little_number}
use Rattle.xxh3.specs.declared.words.Halves.{Halves}

-- ---- words

-- sums and products, without what leaves a word
abbrev pub add : ℕ → ℕ → ℕ
add x y = (x + y) % 2 ^ 64

abbrev pub mul : ℕ → ℕ → ℕ
mul x y = (x * y) % 2 ^ 64

-- 0 - x, without what leaves a word
abbrev pub negated : ℕ → ℕ
negated x = (2 ^ 64 - x) % 2 ^ 64

-- the word of the eight bytes from place i, the lowest first, and the half of a word of the four from there
unfoldable pub word : List ℕ → ℕ → ℕ
word bytes i = little_number 8 (drop i bytes)

unfoldable pub half_word : List ℕ → ℕ → ℕ
half_word bytes i = little_number 4 (drop i bytes)

-- a word and itself shifted down, and a word and the next, joined
abbrev pub xorshift : ℕ → ℕ → ℕ
xorshift x k = bit_xor x (x / 2 ^ k)

unfoldable pub pair : List ℕ → ℕ → ℕ
pair bytes i = bit_xor (word bytes i) (word bytes (i + 8))

-- the two words of a product, joined
unfoldable pub folded_product : ℕ → ℕ → ℕ
folded_product x y = bit_xor ((x * y) % 2 ^ 64) ((x * y) / 2 ^ 64)

-- the last mixing of a word, by XXH3 and by the older XXH64
unfoldable pub avalanche : ℕ → ℕ
avalanche x = xorshift (mul (xorshift x 37) 0x165667919E3779F9) 32

unfoldable pub old_avalanche : ℕ → ℕ
old_avalanche x = xorshift (mul (xorshift (mul (xorshift x 33) 0xC2B2AE3D27D4EB4F) 29) 0x165667B19E3779F9) 32

-- sixteen bytes of the message from place i, with those of the secret from place k
unfoldable pub mixed : List ℕ → List ℕ → ℕ → ℕ → ℕ
mixed secret bytes i k =
    folded_product (bit_xor (word bytes i) (word secret k)) (bit_xor (word bytes (i + 8)) (word secret (k + 8)))

-- ---- 64 bits, up to 240 bytes

-- 1 to 3 bytes: the length, and the first, the middle and the last byte
unfoldable pub few_bytes : List ℕ → ℕ
few_bytes bytes =
    let n = length bytes in
    slice_index bytes 0 * 2 ^ 16 + slice_index bytes (n / 2) * 2 ^ 24 + slice_index bytes (n - 1) + n * 2 ^ 8

unfoldable pub hash64_to_3 : List ℕ → List ℕ → ℕ
hash64_to_3 secret bytes = old_avalanche (bit_xor (few_bytes bytes) (bit_xor (half_word secret 0) (half_word secret 4)))

-- 4 to 8 bytes: the first four and the last four
unfoldable pub hash64_to_8 : List ℕ → List ℕ → ℕ
hash64_to_8 secret bytes =
    let n = length bytes in
    let x = bit_xor (half_word bytes (n - 4) + half_word bytes 0 * 2 ^ 32) (pair secret 8) in
    let y = mul (bit_xor (bit_xor x (rotate_left w64 x 49)) (rotate_left w64 x 24)) 0x9FB21C651E98DF25 in
    xorshift (mul (bit_xor y (y / 2 ^ 35 + n)) 0x9FB21C651E98DF25) 28

-- 9 to 16 bytes: the first eight and the last eight
unfoldable pub hash64_to_16 : List ℕ → List ℕ → ℕ
hash64_to_16 secret bytes =
    let n = length bytes in
    let low = bit_xor (word bytes 0) (pair secret 24) in
    let high = bit_xor (word bytes (n - 8)) (pair secret 40) in
    avalanche (add (add (add n (swap_bytes w64 low)) high) (folded_product low high))

-- where the sums of longer messages begin
abbrev pub length_sum : List ℕ → ℕ
length_sum bytes = mul (length bytes) 0x9E3779B185EBCA87

-- 17 to 128 bytes: sixteens of bytes from both ends, n from each
unfoldable pub ends_sum : List ℕ → List ℕ → ℕ → ℕ
ends_sum secret bytes zero = length_sum bytes
ends_sum secret bytes (suc n) =
    add (add (ends_sum secret bytes n) (mixed secret bytes (16 * n) (32 * n)))
    (mixed secret bytes (length bytes - 16 * (n + 1)) (32 * n + 16))

unfoldable pub hash64_to_128 : List ℕ → List ℕ → ℕ
hash64_to_128 secret bytes = avalanche (ends_sum secret bytes ((length bytes - 1) / 32 + 1))

-- 129 to 240 bytes: n sixteens of bytes from place i on, with the secret from place k on
unfoldable pub run_sum : List ℕ → List ℕ → ℕ → ℕ → ℕ → ℕ → ℕ
run_sum secret bytes sum i k zero = sum
run_sum secret bytes sum i k (suc n) = add (run_sum secret bytes sum i k n) (mixed secret bytes (i + 16 * n) (k + 16 * n))

unfoldable pub hash64_to_240 : List ℕ → List ℕ → ℕ
hash64_to_240 secret bytes =
    let n = length bytes in
    avalanche
    (add (avalanche (run_sum secret bytes (length_sum bytes) 0 0 8))
    (run_sum secret bytes (mixed secret bytes (n - 16) 119) 128 3 (n / 16 - 8)))

-- ---- more than 240 bytes: eight sums, over stripes of 64 bytes and blocks of 16 stripes

abbrev pub first_sums : List ℕ
first_sums = 0xC2B2AE3D ∷ 0x9E3779B185EBCA87 ∷ 0xC2B2AE3D27D4EB4F ∷ 0x165667B19E3779F9 ∷ 0x85EBCA77C2B2AE63 ∷ 0x85EBCA77 ∷ 0x27D4EB2F165667C5 ∷ 0x9E3779B1 ∷ []

-- the eight words from place i
unfoldable pub words : List ℕ → ℕ → List ℕ
words bytes i =
    word bytes i ∷ word bytes (i + 8) ∷ word bytes (i + 16) ∷ word bytes (i + 24)
    ∷ word bytes (i + 32) ∷ word bytes (i + 40) ∷ word bytes (i + 48) ∷ word bytes (i + 56) ∷ []

-- each word in its neighbour's place
abbrev pub swapped : List ℕ → List ℕ
swapped [] = []
swapped (x ∷ []) = x ∷ []
swapped (x ∷ y ∷ xs) = y ∷ x ∷ swapped xs

-- the product of a word's halves, which is a word
abbrev pub halves_product : ℕ → ℕ
halves_product x = mul (x % 2 ^ 32) (x / 2 ^ 32)

-- the sums with a stripe from place i, by the secret from place k
unfoldable pub with_stripe : List ℕ → List ℕ → List ℕ → ℕ → ℕ → List ℕ
with_stripe secret sums bytes i k =
    let stripe = words bytes i in
    zip2 add (zip2 add sums (swapped stripe)) (map halves_product (zip2 bit_xor stripe (words secret k)))

-- the sums after the last stripe of a block
unfoldable pub scrambled : List ℕ → List ℕ → List ℕ
scrambled secret sums = map (λ x. mul x 0x9E3779B1) (zip2 bit_xor (map (λ x. xorshift x 47) sums) (words secret 128))

-- the sums with n stripes from place i, the first of which is the stripe t of its block
unfoldable pub with_stripes : List ℕ → List ℕ → List ℕ → ℕ → ℕ → ℕ → List ℕ
with_stripes secret sums bytes i t zero = sums
with_stripes secret sums bytes i t (suc n) =
    let next = with_stripe secret (with_stripes secret sums bytes i t n) bytes (i + 64 * n) (8 * ((t + n) % 16)) in
    if (t + n) % 16 == 15 then scrambled secret next else next

-- the sums of a message: of its whole stripes but a last one that ends the message, and of its last 64 bytes
unfoldable pub message_sums : List ℕ → List ℕ → List ℕ
message_sums secret bytes =
    let n = length bytes in
    with_stripe secret (with_stripes secret first_sums bytes 0 0 ((n - 1) / 64)) bytes (n - 64) 121

-- the sums as one word, from a word that depends on the length
unfoldable pub merged_sums : List ℕ → List ℕ → ℕ → ℕ → ℕ
merged_sums secret sums k start =
    let keyed = λ (j : ℕ). bit_xor (slice_index sums j) (word secret (k + 8 * j)) in
    avalanche
    (add (add (add (add start (folded_product (keyed 0) (keyed 1))) (folded_product (keyed 2) (keyed 3)))
    (folded_product (keyed 4) (keyed 5))) (folded_product (keyed 6) (keyed 7)))

unfoldable pub hash64_long : List ℕ → List ℕ → ℕ
hash64_long secret bytes = merged_sums secret (message_sums secret bytes) 11 (length_sum bytes)

-- ---- the hash of 64 bits

unfoldable pub hash64_by : List ℕ → List ℕ → ℕ
hash64_by secret bytes =
    let n = length bytes in
    if n == 0 then old_avalanche (pair secret 56)
    else if nat_le n 3 then hash64_to_3 secret bytes
    else if nat_le n 8 then hash64_to_8 secret bytes
    else if nat_le n 16 then hash64_to_16 secret bytes
    else if nat_le n 128 then hash64_to_128 secret bytes
    else if nat_le n 240 then hash64_to_240 secret bytes
    else hash64_long secret bytes

-- ---- 128 bits

-- a number of 128 bits in two words
abbrev pub halves : ℕ → ℕ → Halves
halves low high = record { low = low; high = high }

unfoldable pub hash128_of_none : List ℕ → Halves
hash128_of_none secret = halves (old_avalanche (pair secret 64)) (old_avalanche (pair secret 80))

unfoldable pub hash128_to_3 : List ℕ → List ℕ → Halves
hash128_to_3 secret bytes =
    halves (hash64_to_3 secret bytes)
    (old_avalanche (bit_xor (rotate_left w32 (swap_bytes w32 (few_bytes bytes)) 13) (bit_xor (half_word secret 8) (half_word secret 12))))

unfoldable pub hash128_to_8 : List ℕ → List ℕ → Halves
hash128_to_8 secret bytes =
    let n = length bytes in
    let x = bit_xor (half_word bytes 0 + half_word bytes (n - 4) * 2 ^ 32) (pair secret 16) in
    let product = x * (0x9E3779B185EBCA87 + 4 * n) in
    let high = add (product / 2 ^ 64) (2 * (product % 2 ^ 64)) in
    let low = bit_xor (product % 2 ^ 64) (high / 2 ^ 3) in
    halves (xorshift (mul (xorshift low 35) 0x9FB21C651E98DF25) 28) (avalanche high)

unfoldable pub hash128_to_16 : List ℕ → List ℕ → Halves
hash128_to_16 secret bytes =
    let n = length bytes in
    let first = word bytes 0 in
    let last = word bytes (n - 8) in
    let product = bit_xor (bit_xor first last) (pair secret 32) * 0x9E3779B185EBCA87 in
    let keyed = bit_xor last (pair secret 48) in
    let high = add (add (product / 2 ^ 64) keyed) (keyed % 2 ^ 32 * 0x85EBCA76) in
    let low = bit_xor (add (product % 2 ^ 64) ((n - 1) * 2 ^ 54)) (swap_bytes w64 high) in
    halves (avalanche (mul low 0xC2B2AE3D27D4EB4F)) (avalanche (add (low * 0xC2B2AE3D27D4EB4F / 2 ^ 64) (mul high 0xC2B2AE3D27D4EB4F)))

-- two sums with sixteen bytes from place i and sixteen from place j
unfoldable pub with_both : List ℕ → List ℕ → Halves → ℕ → ℕ → ℕ → Halves
with_both secret bytes sums i j k =
    halves (bit_xor (add sums.low (mixed secret bytes i k)) (add (word bytes j) (word bytes (j + 8))))
    (bit_xor (add sums.high (mixed secret bytes j (k + 16))) (add (word bytes i) (word bytes (i + 8))))

-- what the two sums give
unfoldable pub finished : List ℕ → Halves → Halves
finished bytes sums =
    halves (avalanche (add sums.low sums.high))
    (negated (avalanche (add (add (mul sums.low 0x9E3779B185EBCA87) (mul sums.high 0x85EBCA77C2B2AE63)) (mul (length bytes) 0xC2B2AE3D27D4EB4F))))

-- 17 to 128 bytes: sixteens of bytes from both ends, n from each, the innermost first
unfoldable pub ends_sums : List ℕ → List ℕ → Halves → ℕ → Halves
ends_sums secret bytes sums zero = sums
ends_sums secret bytes sums (suc n) =
    ends_sums secret bytes (with_both secret bytes sums (16 * n) (length bytes - 16 * (n + 1)) (32 * n)) n

unfoldable pub hash128_to_128 : List ℕ → List ℕ → Halves
hash128_to_128 secret bytes = finished bytes (ends_sums secret bytes (halves (length_sum bytes) 0) ((length bytes - 1) / 32 + 1))

-- 129 to 240 bytes: n times thirty-two bytes from place i on
unfoldable pub run_sums : List ℕ → List ℕ → Halves → ℕ → ℕ → ℕ → Halves
run_sums secret bytes sums i k zero = sums
run_sums secret bytes sums i k (suc n) =
    with_both secret bytes (run_sums secret bytes sums i k n) (i + 32 * n) (i + 32 * n + 16) (k + 32 * n)

unfoldable pub hash128_to_240 : List ℕ → List ℕ → Halves
hash128_to_240 secret bytes =
    let n = length bytes in
    let front = run_sums secret bytes (halves (length_sum bytes) 0) 0 0 4 in
    let rest = run_sums secret bytes (halves (avalanche front.low) (avalanche front.high)) 128 3 (n / 32 - 4) in
    finished bytes (with_both secret bytes rest (n - 16) (n - 32) 103)

unfoldable pub hash128_long : List ℕ → List ℕ → Halves
hash128_long secret bytes =
    let sums = message_sums secret bytes in
    halves (merged_sums secret sums 11 (length_sum bytes))
    (merged_sums secret sums 117 (2 ^ 64 - 1 - mul (length bytes) 0xC2B2AE3D27D4EB4F))

-- ---- the hash of 128 bits

unfoldable pub hash128_by : List ℕ → List ℕ → Halves
hash128_by secret bytes =
    let n = length bytes in
    if n == 0 then hash128_of_none secret
    else if nat_le n 3 then hash128_to_3 secret bytes
    else if nat_le n 8 then hash128_to_8 secret bytes
    else if nat_le n 16 then hash128_to_16 secret bytes
    else if nat_le n 128 then hash128_to_128 secret bytes
    else if nat_le n 240 then hash128_to_240 secret bytes
    else hash128_long secret bytes

-- ---- with the secret of the library

unfoldable pub default_secret : List ℕ
default_secret =
    0xb8 ∷ 0xfe ∷ 0x6c ∷ 0x39 ∷ 0x23 ∷ 0xa4 ∷ 0x4b ∷ 0xbe ∷ 0x7c ∷ 0x01 ∷ 0x81 ∷ 0x2c ∷ 0xf7 ∷ 0x21 ∷ 0xad ∷ 0x1c ∷
    0xde ∷ 0xd4 ∷ 0x6d ∷ 0xe9 ∷ 0x83 ∷ 0x90 ∷ 0x97 ∷ 0xdb ∷ 0x72 ∷ 0x40 ∷ 0xa4 ∷ 0xa4 ∷ 0xb7 ∷ 0xb3 ∷ 0x67 ∷ 0x1f ∷
    0xcb ∷ 0x79 ∷ 0xe6 ∷ 0x4e ∷ 0xcc ∷ 0xc0 ∷ 0xe5 ∷ 0x78 ∷ 0x82 ∷ 0x5a ∷ 0xd0 ∷ 0x7d ∷ 0xcc ∷ 0xff ∷ 0x72 ∷ 0x21 ∷
    0xb8 ∷ 0x08 ∷ 0x46 ∷ 0x74 ∷ 0xf7 ∷ 0x43 ∷ 0x24 ∷ 0x8e ∷ 0xe0 ∷ 0x35 ∷ 0x90 ∷ 0xe6 ∷ 0x81 ∷ 0x3a ∷ 0x26 ∷ 0x4c ∷
    0x3c ∷ 0x28 ∷ 0x52 ∷ 0xbb ∷ 0x91 ∷ 0xc3 ∷ 0x00 ∷ 0xcb ∷ 0x88 ∷ 0xd0 ∷ 0x65 ∷ 0x8b ∷ 0x1b ∷ 0x53 ∷ 0x2e ∷ 0xa3 ∷
    0x71 ∷ 0x64 ∷ 0x48 ∷ 0x97 ∷ 0xa2 ∷ 0x0d ∷ 0xf9 ∷ 0x4e ∷ 0x38 ∷ 0x19 ∷ 0xef ∷ 0x46 ∷ 0xa9 ∷ 0xde ∷ 0xac ∷ 0xd8 ∷
    0xa8 ∷ 0xfa ∷ 0x76 ∷ 0x3f ∷ 0xe3 ∷ 0x9c ∷ 0x34 ∷ 0x3f ∷ 0xf9 ∷ 0xdc ∷ 0xbb ∷ 0xc7 ∷ 0xc7 ∷ 0x0b ∷ 0x4f ∷ 0x1d ∷
    0x8a ∷ 0x51 ∷ 0xe0 ∷ 0x4b ∷ 0xcd ∷ 0xb4 ∷ 0x59 ∷ 0x31 ∷ 0xc8 ∷ 0x9f ∷ 0x7e ∷ 0xc9 ∷ 0xd9 ∷ 0x78 ∷ 0x73 ∷ 0x64 ∷
    0xea ∷ 0xc5 ∷ 0xac ∷ 0x83 ∷ 0x34 ∷ 0xd3 ∷ 0xeb ∷ 0xc3 ∷ 0xc5 ∷ 0x81 ∷ 0xa0 ∷ 0xff ∷ 0xfa ∷ 0x13 ∷ 0x63 ∷ 0xeb ∷
    0x17 ∷ 0x0d ∷ 0xdd ∷ 0x51 ∷ 0xb7 ∷ 0xf0 ∷ 0xda ∷ 0x49 ∷ 0xd3 ∷ 0x16 ∷ 0x55 ∷ 0x26 ∷ 0x29 ∷ 0xd4 ∷ 0x68 ∷ 0x9e ∷
    0x2b ∷ 0x16 ∷ 0xbe ∷ 0x58 ∷ 0x7d ∷ 0x47 ∷ 0xa1 ∷ 0xfc ∷ 0x8f ∷ 0xf8 ∷ 0xb8 ∷ 0xd1 ∷ 0x7a ∷ 0xd0 ∷ 0x31 ∷ 0xce ∷
    0x45 ∷ 0xcb ∷ 0x3a ∷ 0x8f ∷ 0x95 ∷ 0x16 ∷ 0x04 ∷ 0x28 ∷ 0xaf ∷ 0xd7 ∷ 0xfb ∷ 0xca ∷ 0xbb ∷ 0x4b ∷ 0x40 ∷ 0x7e ∷ []

unfoldable pub xxh3_64 : List ℕ → ℕ
xxh3_64 bytes = hash64_by default_secret bytes

unfoldable pub xxh3_128 : List ℕ → ℕ
xxh3_128 bytes = let h = hash128_by default_secret bytes in h.low + h.high * 2 ^ 64
