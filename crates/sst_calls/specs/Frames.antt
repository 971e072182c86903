-- Frames in a caller's buffers.
use Rattle.std.specs.Prelude.{◌≡◌, ◌⊎◌, ℕ, ◌≤◌, ◌^◌, List, length, Ok, Err}
use Rattle.sstable_blocks.specs.Prelude.{BlockParts, block_type_byte, block_type_of, frame, frame_in}
use Rattle.sstable_blocks.specs.Results.{Error, TooLong, Memory}
use Rattle.sstable_blocks.specs.BlockTypes.{BlockType}
use Rattle.sst_calls.specs.Given.{AreKept, IsWrittenOut}
use Rattle.sst_calls.specs.declared.codes.Status.{Status}
use Rattle.sst_calls.specs.declared.codes.Status.TheVariants.{Done, Failed, BadArgument}
use Rattle.sst_calls.specs.Hashing.{IsHashed, hash128_of, hash_given}

-- the error that ends a write: the payload is too long, or an allocation failed
pub record IsFrameFailure (payload old new : List ℕ) (len_old len_new : ℕ) (e : Error) : Type 0 where
  pub cause : (e ≡ Memory) ⊎ ((e ≡ TooLong) × (2 ^ 32 ≤ length payload))
  pub kept : AreKept old new len_old len_new

-- what becomes of a frame that is written: an argument is refused exactly if its byte is that of no type of block
abbrev pub IsFrameWrite : (List ℕ → ℕ) → List ℕ → ℕ → List ℕ → List ℕ → ℕ → ℕ → Status → Type 0
IsFrameWrite hash payload byte old new len_old len_new BadArgument = ((t : BlockType) → block_type_of byte ≡ Ok t → ⊥) × AreKept old new len_old len_new
IsFrameWrite hash payload byte old new len_old len_new (Failed e) = IsFrameFailure payload old new len_old len_new e
IsFrameWrite hash payload byte old new len_old len_new s = (t : BlockType) × (block_type_of byte ≡ Ok t) × IsWrittenOut (frame hash t payload) old new len_new s

-- bytes are refused as a frame, by the first error, or an allocation failed; what a check tells is left
pub record IsNoFrame (hash : List ℕ → ℕ) (bytes : List ℕ) (type_old type_new len_old len_new : ℕ) (e : Error) : Type 0 where
  pub cause : (e ≡ Memory) ⊎ (frame_in hash bytes ≡ Err e)
  pub kept_type : type_new ≡ type_old
  pub kept_len : len_new ≡ len_old

-- what a check of a frame says: the byte of its type and the length of its payload, or the error
abbrev pub IsFrameCheck : (List ℕ → ℕ) → List ℕ → ℕ → ℕ → ℕ → ℕ → Status → Type 0
IsFrameCheck hash bytes type_old type_new len_old len_new Done =
    (b : BlockParts) × (frame_in hash bytes ≡ Ok b) × (type_new ≡ block_type_byte b.header.block_type) × (len_new ≡ length b.payload)
IsFrameCheck hash bytes type_old type_new len_old len_new (Failed e) = IsNoFrame hash bytes type_old type_new len_old len_new e
IsFrameCheck hash bytes type_old type_new len_old len_new _ = ⊥

-- both by the hash function of a number
abbrev pub IsFrameWriteBy : ℕ → List ℕ → ℕ → List ℕ → List ℕ → ℕ → ℕ → Status → Type 0
IsFrameWriteBy number payload byte old new len_old len_new s =
    IsHashed (hash_given number) s (AreKept old new len_old len_new) (λ h. IsFrameWrite (hash128_of h) payload byte old new len_old len_new s)

abbrev pub IsFrameCheckBy : ℕ → List ℕ → ℕ → ℕ → ℕ → ℕ → Status → Type 0
IsFrameCheckBy number bytes type_old type_new len_old len_new s =
    IsHashed (hash_given number) s ((type_new ≡ type_old) × (len_new ≡ len_old)) (λ h. IsFrameCheck (hash128_of h) bytes type_old type_new len_old len_new s)
