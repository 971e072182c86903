-- Handles of blocks: where the frame of a block is in a file.
use Rattle.std.specs.Prelude.{ℕ, ◌+◌, ◌-◌, ◌*◌, ◌/◌, ◌^◌, List, [], ◌∷◌, ◌++◌, nat_lt, nat_le, nat_eq, if◌then◌else◌, Result, Ok, Err}
use Rattle.sst_base.specs.Header.{◌>>=◌}
use Rattle.sst_base.specs.Varint.{varint}
use Rattle.sst_base.specs.declared.error.Error.{Error}
use Rattle.sst_base.specs.declared.error.Error.TheVariants.{Io, BadHandle}

-- the offset of a frame, and its length in bytes
pub record HandleParts : Type 0 where
  pub offset : ℕ
  pub size : ℕ

-- offset (varint 64), size (varint 32)
abbrev pub handle_bytes : HandleParts → List ℕ
handle_bytes h = varint h.offset ++ varint h.size

-- a digit before the number that the bytes after it encode, which isn't 0
abbrev pub behind_digit : ℕ → ℕ × List ℕ → Result (ℕ × List ℕ) Error
behind_digit digit high = if nat_eq high.0 0 then Err BadHandle else Ok (digit + 128 * high.0, high.1)

-- The number of at most `max` that a prefix of the bytes encodes, or the error for the first byte with which no
-- minimal encoding of such a number continues.
unfoldable pub handle_number_at : ℕ → List ℕ → Result (ℕ × List ℕ) Error
handle_number_at max [] = Err Io
handle_number_at max (b ∷ bs) =
    if nat_lt b 128 then (if nat_le b max then Ok (b, bs) else Err BadHandle)
    else if nat_lt max 128 then Err BadHandle
    else handle_number_at ((max - (b - 128)) / 128) bs >>= behind_digit (b - 128)

-- the handle at the start of bytes
unfoldable pub handle_at : List ℕ → Result (HandleParts × List ℕ) Error
handle_at bytes = do
  offset ← handle_number_at (2 ^ 64 - 1) bytes
  size ← handle_number_at (2 ^ 32 - 1) offset.1
  Ok (record { offset = offset.0; size = size.0 }, size.1)
