-- Varints: a number as digits of seven bits, the lowest first, one a byte.
use Rattle.std.specs.Prelude.{◌≡◌, ℕ, ◌+◌, ◌*◌, ◌/◌, ◌%◌, ◌-◌, ◌^◌, ◌<◌, ◌≤◌, ◌⊎◌, zero, suc, List, [], ◌∷◌, nat_lt, nat_le, nat_eq, if◌then◌else◌, Option, None, Some}

-- The grammar: a byte below 128 is the last, and stands for itself. One from 128 on is a digit plus 128, and
-- the bytes after it encode the rest, which isn't 0: so each number has one encoding.
abbrev pub IsVarint : List ℕ → ℕ → Type 0
IsVarint [] n = ⊥
IsVarint (b ∷ []) n = (b < 128) × (n ≡ b)
IsVarint (b ∷ c ∷ bs) n = (128 ≤ b) × (b < 256) × (high : ℕ) × (0 < high) × (n + 128 ≡ b + 128 * high) × IsVarint (c ∷ bs) high

-- the encoding of a number with at most `more` digits after the first
unfoldable pub varint_within : ℕ → ℕ → List ℕ
varint_within zero n = n ∷ []
varint_within (suc more) n = if nat_lt n 128 then n ∷ [] else (n % 128 + 128) ∷ varint_within more (n / 128)

-- the encoding of a number below 2 ^ 64
unfoldable pub varint : ℕ → List ℕ
varint n = varint_within 9 n

-- a varint is read within one of three widths
abbrev pub IsWidth : ℕ → Type 0
IsWidth bits = (bits ≡ 16) ⊎ (bits ≡ 32) ⊎ (bits ≡ 64)

-- a digit before what the bytes after it encode, which isn't 0: the number, and how many bytes
abbrev pub with_digit : ℕ → Option (ℕ × ℕ) → Option (ℕ × ℕ)
with_digit digit None = None
with_digit digit (Some high) = if nat_eq high.0 0 then None else Some (digit + 128 * high.0, high.1 + 1)

-- the same for digits that stand for `sum` and take `len` bytes, before one that counts `scale`
abbrev pub with_digits : ℕ → ℕ → ℕ → Option (ℕ × ℕ) → Option (ℕ × ℕ)
with_digits len sum scale None = None
with_digits len sum scale (Some high) = if nat_eq high.0 0 then None else Some (sum + scale * high.0, len + high.1)

-- the number of at most `max` that a prefix of the bytes encodes, and the length of that prefix
unfoldable pub varint_up_to : ℕ → List ℕ → Option (ℕ × ℕ)
varint_up_to max [] = None
varint_up_to max (b ∷ bs) =
    if nat_lt b 128 then (if nat_le b max then Some (b, 1) else None)
    else if nat_lt max 128 then None
    else with_digit (b - 128) (varint_up_to ((max - (b - 128)) / 128) bs)

-- the number below 2 ^ bits that a prefix of the bytes encodes, and the length of that prefix
unfoldable pub varint_at : ℕ → List ℕ → Option (ℕ × ℕ)
varint_at bits bytes = varint_up_to (2 ^ bits - 1) bytes
