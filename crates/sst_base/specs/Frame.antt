-- Frames: a header, and the payload that it describes.
use Rattle.std.specs.Prelude.{ℕ, List, ◌++◌, length, drop, nat_eq, nat_le, Bool, ◌&&◌, if◌then◌else◌, Result, Ok, Err}
use Rattle.sst_base.specs.Block.{BlockParts}
use Rattle.sst_base.specs.BlockType.{block_type_byte}
use Rattle.sst_base.specs.Header.{◌>>=◌, bytes_at, header, header_at}
use Rattle.sst_base.specs.declared.error.Error.{Error}
use Rattle.sst_base.specs.declared.error.Error.TheVariants.{ChecksumMismatch, InvalidTag, LengthMismatch, Truncated}
use Rattle.sst_base.specs.declared.error.TagName.TheVariants as tags
use Rattle.sst_base.specs.declared.table.block.block_type.BlockType.{BlockType}
use Rattle.sst_base.specs.declared.table.block.header.Header.{Header}

-- the header of a payload: its type, its checksum, and its length twice
abbrev pub header_for : (List ℕ → ℕ) → BlockType → List ℕ → Header
header_for hash128 t payload = record {
  block_type = t;
  checksum = hash128 payload;
  data_length = length payload;
  uncompressed_length = length payload;
}

-- a payload with its header
abbrev pub frame_block : (List ℕ → ℕ) → BlockType → List ℕ → BlockParts
frame_block hash128 t payload = record { header = header_for hash128 t payload; payload = payload }

-- the frame of a payload: the 33 bytes of its header, and the payload
unfoldable pub frame : (List ℕ → ℕ) → BlockType → List ℕ → List ℕ
frame hash128 t payload = header hash128 (header_for hash128 t payload) ++ payload

-- reading continues where a test holds
abbrev pub demand : Bool → Error → Result (Unit {0}) Error
demand test e = if test then Ok tt else Err e

-- the block of a header and a payload, where the payload's checksum is the header's
unfoldable pub verified_block : (List ℕ → ℕ) → Header → List ℕ → Result BlockParts Error
verified_block hash128 h payload =
    if nat_eq (hash128 payload) h.checksum then Ok (record { header = h; payload = payload })
    else Err (ChecksumMismatch (hash128 payload) h.checksum)

-- the block of a header, whose payload is at the start of the bytes after it
unfoldable pub block_at : (List ℕ → ℕ) → Header → List ℕ → Result (BlockParts × List ℕ) Error
block_at hash128 h bytes = do
  equal ← demand (nat_eq h.data_length h.uncompressed_length) LengthMismatch
  payload ← bytes_at h.data_length bytes
  block ← verified_block hash128 h payload.0
  Ok (block, payload.1)

-- the block whose frame is at the start of bytes, or the first error in the order of the bytes
unfoldable pub frame_at : (List ℕ → ℕ) → List ℕ → Result (BlockParts × List ℕ) Error
frame_at hash128 bytes = do
  h ← header_at hash128 bytes
  block_at hash128 h.0 h.1

-- both lengths of a header equal this number
abbrev pub has_length : Header → ℕ → Bool
has_length h n = nat_eq h.data_length h.uncompressed_length && nat_eq h.data_length n

-- the block whose frame the bytes are, or the first error
unfoldable pub frame_in : (List ℕ → ℕ) → List ℕ → Result BlockParts Error
frame_in hash128 bytes = do
  long ← demand (nat_le 33 (length bytes)) Truncated
  h ← header_at hash128 bytes
  equal ← demand (has_length h.0 (length h.1)) LengthMismatch
  verified_block hash128 h.0 h.1

-- the block whose frame has this length at this offset of a file
unfoldable pub frame_in_file : (List ℕ → ℕ) → ℕ → ℕ → List ℕ → Result BlockParts Error
frame_in_file hash128 offset size bytes = do
  found ← bytes_at size (drop offset bytes)
  frame_in hash128 found.0

-- the payload of a block of this type
abbrev pub of_type : BlockType → BlockParts → Result (List ℕ) Error
of_type t block =
    if nat_eq (block_type_byte block.header.block_type) (block_type_byte t) then Ok block.payload
    else Err (InvalidTag tags.BlockType (block_type_byte block.header.block_type))

-- the payload of the frame that the bytes are, of the requested type
unfoldable pub payload_of_type : (List ℕ → ℕ) → BlockType → List ℕ → Result (List ℕ) Error
payload_of_type hash128 t bytes = do
  block ← frame_in hash128 bytes
  of_type t block
