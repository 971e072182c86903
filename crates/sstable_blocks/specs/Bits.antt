-- The bits of a byte string, the highest bit of each byte first.
use Rattle.std.specs.Prelude.{◌≡◌, ℕ, ◌-◌, ◌/◌, ◌%◌, Bool, nat_eq, List, slice_index}
use Rattle.std.specs.Int.{bit_at}

-- bit i is set: mask 128 >> (i mod 8) of byte i / 8
abbrev pub HasBit : List ℕ → ℕ → Type 0
HasBit bytes i = bit_at (slice_index bytes (i / 8)) (7 - i % 8) ≡ 1

-- the same, as a test
abbrev pub has_bit : List ℕ → ℕ → Bool
has_bit bytes i = nat_eq (bit_at (slice_index bytes (i / 8)) (7 - i % 8)) 1
