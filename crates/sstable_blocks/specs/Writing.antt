-- A run that is being written.
use Rattle.std.specs.Prelude.{◌≡◌, ◌≢◌, ℕ, ◌+◌, ◌*◌, ◌≤◌, ◌<◌, ◌^◌, ◌⊎◌, List, [], ◌∷◌, ◌++◌, length, Option, Some, None, Result, Err, IfErr, IsErrOf}
use Rattle.std.specs.Io.KnownBytes.{Appends}
use Rattle.std.specs.List.{AllByRecursion}
use Rattle.std.specs.declared.cmp.Ordering.TheVariants.{Less}
use Rattle.sst_base.specs.BlockHandle.{HandleParts}
use Rattle.sst_base.specs.Entry.{Entry, IsEntry}
use Rattle.sst_base.specs.Frame.{frame}
use Rattle.sst_base.specs.declared.error.Error.{Error}
use Rattle.sst_base.specs.declared.error.Error.TheVariants.{Io, TooLong, Memory}
use Rattle.sst_base.specs.declared.table.block.block_type.BlockType.{BlockType}
use Rattle.sst_base.specs.declared.table.block.block_type.BlockType.TheVariants.{Filter}
use Rattle.sst_block_core.specs.Body.{IsInterval}
use Rattle.sst_block_core.specs.Entries.{entries}
use Rattle.sst_block_core.specs.Handles.{Handle}
use Rattle.sst_block_core.specs.Kind.{IsOrdered, item_cmp}
use Rattle.sstable_blocks.specs.Blocks.{joined, IsNotEmpty}
use Rattle.sstable_blocks.specs.Run.{Form, block_payload, block_frame, block_frames, handles_from, key_hashes, IsFramed, IsFilterText, IsLayout, RunFits}
use Rattle.sstable_blocks.specs.Footer.{footer}
use Rattle.sstable_blocks.specs.RunReading.{Hashes}
use Rattle.sstable_blocks.specs.Sound.{IsSound}
use Rattle.sstable_blocks.specs.declared.run.RunConfig.{RunConfig}
use Rattle.sstable_blocks.specs.declared.run.RunHandles.{RunHandles}

-- what contracts see of the core of a writer of runs: how it writes, and the blocks that it accepted
pub record Written : Type 0 where
  pub config : RunConfig
  pub blocks : List (List Entry)

-- and of a writer of runs, which has a writer of bytes of its own: also the error that it returns from now on, if any,
-- and the bytes that its writer held when it was made, if those are known
pub record Writing (W : Type 0) : Type 0 where
  pub config : RunConfig
  pub blocks : List (List Entry)
  pub refusal : Option Error
  pub start : Option (List ℕ)
  pub writer : W

-- what is kept of the blocks accepted: their handles, the hashes of their keys if there are bits for them, and the
-- offset of the next frame
pub record IsKept (f : Form) (blocks : List (List Entry)) (hs : List Handle) (hashes : List ℕ) (next : ℕ) : Type 0 where
  pub interval : IsInterval f.config.restart_interval
  pub index_interval : IsInterval f.config.index_interval
  pub all_some : AllByRecursion IsNotEmpty blocks
  pub valid : AllByRecursion IsEntry (joined blocks)
  pub ordered : IsOrdered entries (joined blocks)
  pub framed : AllByRecursion (λ block. IsFramed (block_payload f block)) blocks
  pub handles : hs ≡ handles_from f 0 blocks
  pub hashed : 1 ≤ f.config.bits_per_key → hashes ≡ key_hashes f.hash64 (joined blocks)
  pub offset : next ≡ length (block_frames f blocks)
  pub fits : next < 2 ^ 64

-- a block fits at an offset: its payload a handle, and the end of its frame 64 bits
pub record FrameFits (f : Form) (at : ℕ) (block : List Entry) : Type 0 where
  pub framed : IsFramed (block_payload f block)
  pub end : at + length (block_frame f block) < 2 ^ 64

-- a payload fits at an offset
pub record PartFits (at : ℕ) (payload : List ℕ) : Type 0 where
  pub framed : IsFramed payload
  pub end : at + (33 + length payload) < 2 ^ 64

-- a payload, a length and an end are those of the frame of a valid block at an offset
pub record IsFramedBlock (f : Form) (at : ℕ) (block : List Entry) (text : List ℕ) (long behind : ℕ) : Type 0 where
  pub payload : text ≡ block_payload f block
  pub size : long ≡ length (block_frame f block)
  pub end : behind ≡ at + length (block_frame f block)
  pub fits : FrameFits f at block
  pub valid : AllByRecursion IsEntry block

-- why a write fails: the writer failed, something does not fit, or an allocation failed
abbrev pub IsWriteRefusal : Type 0 → Error → Type 0
IsWriteRefusal long e = (e ≡ Io) ⊎ ((e ≡ TooLong) × long) ⊎ (e ≡ Memory)

-- a call over a writer: `Io` only where the writer failed in that call, and one that never fails stays so
abbrev pub UsesWriter : {W T : Type 0} → (W → Type 0) → W → W → Result T Error → Type 0
UsesWriter never_fails old new result = (IsErrOf result Io → never_fails old → ⊥) × (never_fails old → never_fails new)

-- a call that comes to its writer last: at an error but `Io` nothing was written
abbrev pub WritesLast : {W T : Type 0} → (W → Type 0) → W → W → Result T Error → Type 0
WritesLast never_fails old new result = IfErr result (λ e. e ≢ Io → new ≡ old) × UsesWriter never_fails old new result

-- a writer's known bytes grew by the layout of a run, whose handles these are
abbrev pub AppendsLayout : Form → List (List Entry) → Option (List ℕ) → Option (List ℕ) → RunHandles → Type 0
AppendsLayout f blocks old new h = (text : List ℕ) × IsLayout f blocks text h × Appends old new text

-- the bytes of a table file: the layout of a run, and its footer after it
pub record IsTable (f : Form) (blocks : List (List Entry)) (h : RunHandles) (bytes : List ℕ) : Type 0 where
  pub run : List ℕ
  pub layout : IsLayout f blocks run h
  pub text : bytes ≡ run ++ footer h

-- a writer's known bytes grew by a table of this length, whose handles these are
pub record AppendsTable (f : Form) (blocks : List (List Entry)) (old new : Option (List ℕ)) (h : RunHandles) (len : ℕ) : Type 0 where
  pub bytes : List ℕ
  pub table : IsTable f blocks h bytes
  pub appended : Appends old new bytes
  pub len_is : len ≡ length bytes

-- a run and the footer after it fit 64 bits
pub record TableFits (f : Form) (blocks : List (List Entry)) : Type 0 where
  pub run : RunFits f blocks
  pub end : (bytes : List ℕ) (h : RunHandles) → IsLayout f blocks bytes h → length bytes + 24 < 2 ^ 64

-- they grew by a sound run of these blocks, whose handles these are
abbrev pub AppendsSound : Hashes → List (List Entry) → Option (List ℕ) → Option (List ℕ) → RunHandles → Type 0
AppendsSound c blocks old new h = (bytes : List ℕ) × IsSound c blocks bytes h × Appends old new bytes

-- they grew by what a layout has after the frames of its blocks
abbrev pub AppendsEnd : Form → List (List Entry) → Option (List ℕ) → Option (List ℕ) → RunHandles → Type 0
AppendsEnd f blocks old new h = (text : List ℕ) × IsLayout f blocks (block_frames f blocks ++ text) h × Appends old new text

-- they grew by a frame at an offset, whose handle this is
pub record IsFrameAppended (hash128 : List ℕ → ℕ) (t : BlockType) (at : ℕ) (payload : List ℕ) (old new : Option (List ℕ)) (h : HandleParts) : Type 0 where
  pub bytes : Appends old new (frame hash128 t payload)
  pub offset : h.offset ≡ at
  pub size : h.size ≡ 33 + length payload
  pub fits : PartFits at payload

-- they grew by the frame of the filter of a run at an offset, if there are bits
abbrev pub AppendsFilter : Form → List (List Entry) → ℕ → Option (List ℕ) → Option (List ℕ) → Option HandleParts → Type 0
AppendsFilter f blocks at old new None = (f.config.bits_per_key ≡ 0) × Appends old new []
AppendsFilter f blocks at old new (Some h) =
    (1 ≤ f.config.bits_per_key) × (length (joined blocks) * f.config.bits_per_key ≤ 34359737920)
    × ((p : List ℕ) × IsFilterText (key_hashes f.hash64 (joined blocks)) f.config.bits_per_key p × IsFrameAppended f.hash128 Filter at p old new h)

-- entries can be the block after others: there is one, and all are in order
pub record Follows (blocks : List (List Entry)) (items : List Entry) : Type 0 where
  pub some : IsNotEmpty items
  pub ordered : IsOrdered entries (joined (blocks ++ items ∷ []))

-- what a writer of runs keeps: a ratio whose denominator is not 0, and before an error the frames of its blocks in its
-- writer
pub record IsUnderWay (f : Form) (blocks : List (List Entry)) (refusal : Option Error) (start now : Option (List ℕ)) : Type 0 where
  pub den : 1 ≤ f.config.ratio.den
  pub frames : refusal ≡ None → Appends start now (block_frames f blocks)

-- the same run goes on: its configuration, and what its writer held when it was made
pub record IsSameRun {W : Type 0} (old new : Writing W) : Type 0 where
  pub config : new.config ≡ old.config
  pub start : new.start ≡ old.start

-- an error is returned once more, and nothing is written
pub record RepeatsError {T W : Type 0} (old new : Writing W) (result : Result T Error) (e : Error) : Type 0 where
  pub error : result ≡ Err e
  pub untouched : new.writer ≡ old.writer

-- an entry does not sort before the last one of blocks
abbrev pub FollowsLast : List (List Entry) → Entry → Type 0
FollowsLast blocks item = (front : List Entry) (last : Entry) → joined blocks ≡ front ++ last ∷ [] → item_cmp entries item last ≢ Less
