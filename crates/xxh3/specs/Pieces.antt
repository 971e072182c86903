-- Parts of lists that are the same.
use Rattle.std.specs.Prelude.{◌≡◌, ℕ, ◌+◌, ◌<◌, List, length, slice_index}

-- n bytes of xs from place i are those of ys from place j
pub record IsSame (xs : List ℕ) (i : ℕ) (ys : List ℕ) (j n : ℕ) : Type 0 where
  pub each : (k : ℕ) → k < n → slice_index xs (i + k) ≡ slice_index ys (j + k)

-- the bytes stand in new from place at on, and what stood before them in old is as it was
pub record IsPut (old new : List ℕ) (at : ℕ) (bytes : List ℕ) : Type 0 where
  pub inside : IsSame new at bytes 0 (length bytes)
  pub before : IsSame new 0 old 0 at
