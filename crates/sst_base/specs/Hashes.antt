-- The plain hash functions.
use Rattle.std.specs.Prelude.{◌≡◌, ℕ, ◌+◌, ◌*◌, ◌%◌, ◌^◌, List, [], ◌∷◌, fold, take, drop}

-- one byte more: the hash so far times 31, plus the byte
abbrev pub times31 : ℕ → ℕ → ℕ
times31 so_far byte = so_far * 31 + byte

-- a hash value continued by bytes, modulo 2 ^ bits
abbrev pub poly31_from : ℕ → ℕ → List ℕ → ℕ
poly31_from bits so_far bytes = fold times31 so_far bytes % 2 ^ bits

-- from 0, times 31 plus each byte in turn, modulo 2 ^ bits
abbrev pub poly31 : ℕ → List ℕ → ℕ
poly31 bits bytes = poly31_from bits 0 bytes

-- one byte more: the sum so far, plus the byte
abbrev pub plus : ℕ → ℕ → ℕ
plus so_far byte = so_far + byte

-- a sum continued by bytes, modulo 2 ^ bits
abbrev pub byte_sum_from : ℕ → ℕ → List ℕ → ℕ
byte_sum_from bits so_far bytes = fold plus so_far bytes % 2 ^ bits

-- the sum of the bytes, modulo 2 ^ bits
abbrev pub byte_sum : ℕ → List ℕ → ℕ
byte_sum bits bytes = byte_sum_from bits 0 bytes

-- the hash of four bytes
abbrev pub four : List ℕ → ℕ
four bytes = fold times31 0 (take 4 bytes)

-- the hashes of the first four bytes, of the next four, and so on, of sixteen
abbrev pub IsFours : List ℕ → List ℕ → Type 0
IsFours bytes hashes = hashes ≡ four bytes ∷ four (drop 4 bytes) ∷ four (drop 8 bytes) ∷ four (drop 12 bytes) ∷ []
