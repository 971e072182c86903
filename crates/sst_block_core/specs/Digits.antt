-- Varints that are encoded in bytes, of which the first digits are read.
use Rattle.std.specs.Prelude.{◌≡◌, ℕ, ◌+◌, ◌-◌, ◌*◌, ◌^◌, ◌≤◌, List, drop}
use Rattle.sst_base.specs.Varint.{varint_up_to, varint_at, with_digits}

-- The first `len` bytes of a varint within a width are read, and none of them is its last: their digits sum to `sum`,
-- the next one counts `scale` times, and what the bytes after them encode, within some room, is the rest.
pub record IsReadTo (bits : ℕ) (bytes : List ℕ) (len sum scale : ℕ) : Type 0 where
  pub room : ℕ
  pub fits : sum + scale * room ≤ 2 ^ bits - 1
  pub rest : with_digits len sum scale (varint_up_to room (drop len bytes)) ≡ varint_at bits bytes
