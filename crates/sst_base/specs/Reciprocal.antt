-- Reciprocals of numbers of 64 bits.
use Rattle.std.specs.Prelude.{◌≡◌, ℕ, ◌-◌, ◌/◌, ◌^◌, ◌≤◌}

-- a number is (2^64 - 1) / m, rounded down, and m is not 0
pub record IsReciprocal (m reciprocal : ℕ) : Type 0 where
  pub some : 1 ≤ m
  pub value : reciprocal ≡ (2 ^ 64 - 1) / m
