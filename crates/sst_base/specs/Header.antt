-- The header of a block: magic, type, checksum of the payload, two lengths, checksum of the 29 bytes before.
use Rattle.std.specs.Prelude.{ℕ, ◌%◌, ◌^◌, ◌<◌, List, [], ◌∷◌, ◌++◌, length, take, drop, nat_lt, nat_eq, slice_index, if◌then◌else◌, Result, Ok, Err}
use Rattle.std.specs.Cmp.Lexicographic.{pointwise}
use Rattle.byteorder.specs.Endian.{little_bytes, little_number}
use Rattle.sst_base.specs.BlockType.{block_type_byte, block_type_of}
use Rattle.sst_base.specs.declared.error.Error.{Error}
use Rattle.sst_base.specs.declared.error.Error.TheVariants.{Io, InvalidHeader, ChecksumMismatch}
use Rattle.sst_base.specs.declared.error.HeaderName.TheVariants as names
use Rattle.sst_base.specs.declared.table.block.block_type.BlockType.{BlockType}
use Rattle.sst_base.specs.declared.table.block.header.Header.{Header}

-- LSM and 3
abbrev pub magic : List ℕ
magic = 76 ∷ 83 ∷ 77 ∷ 3 ∷ []

-- the 29 bytes that the header's own checksum covers
unfoldable pub header_start : Header → List ℕ
header_start h = magic ++ (block_type_byte h.block_type ∷ (little_bytes 16 h.checksum ++ (little_bytes 4 h.data_length ++ little_bytes 4 h.uncompressed_length)))

-- the 33 bytes of a header
unfoldable pub header : (List ℕ → ℕ) → Header → List ℕ
header hash128 h = header_start h ++ little_bytes 4 (hash128 (header_start h) % 2 ^ 32)

-- the numbers of a header fit their fields
pub record IsHeader (h : Header) : Type 0 where
  pub checksum : h.checksum < 2 ^ 128
  pub data_length : h.data_length < 2 ^ 32
  pub uncompressed_length : h.uncompressed_length < 2 ^ 32

-- one reading after another; the first error is the result
infixl 10 ◌>>=◌
abbrev pub ◌>>=◌ : {A B : Type 0} → Result A Error → (A → Result B Error) → Result B Error
(Ok x) >>= f = f x
(Err e) >>= f = Err e

-- the first n bytes and the bytes after them, where there are at least n
abbrev pub bytes_at : ℕ → List ℕ → Result (List ℕ × List ℕ) Error
bytes_at n bytes = if nat_lt (length bytes) n then Err Io else Ok (take n bytes, drop n bytes)

-- the magic
abbrev pub magic_at : List ℕ → Result (List ℕ × List ℕ) Error
magic_at bytes = do
  found ← bytes_at 4 bytes
  if pointwise nat_eq found.0 magic then Ok found else Err (InvalidHeader names.Block)

-- a type of block
abbrev pub block_type_at : List ℕ → Result (BlockType × List ℕ) Error
block_type_at bytes = do
  tag ← bytes_at 1 bytes
  block_type ← block_type_of (slice_index tag.0 0)
  Ok (block_type, tag.1)

-- the header of a type and the 24 bytes of its checksum and lengths
abbrev pub header_with : BlockType → List ℕ → Header
header_with block_type fields = record {
  block_type = block_type;
  checksum = little_number 16 fields;
  data_length = little_number 4 (drop 16 fields);
  uncompressed_length = little_number 4 (drop 20 fields);
}

-- the same, where the computed and the stored checksum of the header agree
unfoldable pub header_of : (List ℕ → ℕ) → BlockType → List ℕ → ℕ → Result Header Error
header_of hash128 block_type fields expected =
    let got = hash128 (magic ++ (block_type_byte block_type ∷ fields)) % 2 ^ 32 in
    if nat_eq got expected then Ok (header_with block_type fields) else Err (ChecksumMismatch got expected)

-- the header at the start of bytes, or the first error in the order of the bytes
unfoldable pub header_at : (List ℕ → ℕ) → List ℕ → Result (Header × List ℕ) Error
header_at hash128 bytes = do
  m ← magic_at bytes
  t ← block_type_at m.1
  tail ← bytes_at 28 t.1
  h ← header_of hash128 t.0 (take 24 tail.0) (little_number 4 (drop 24 tail.0))
  Ok (h, tail.1)
