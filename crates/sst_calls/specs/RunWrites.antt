-- Runs written block by block: the frame of a block, and the index and the filter after all blocks.
use Rattle.std.specs.Prelude.{◌≡◌, ◌⊎◌, ℕ, ◌+◌, ◌*◌, ◌/◌, ◌==◌, ◌≤◌, ◌<◌, ◌^◌, if◌then◌else◌, List, [], ◌∷◌, ◌++◌, length, map, take, drop, Option, Some, None}
use Rattle.std.specs.List.{AllByRecursion}
use Rattle.sstable_blocks.specs.Prelude.{Entry, IsEntry, entries, IsOrdered, Handle, HandleParts, frame, index_payload}
use Rattle.sstable_blocks.specs.BlockTypes.{BlockType, Index, Filter}
use Rattle.sstable_blocks.specs.Results.{Error, TooLong, Memory}
use Rattle.sstable_blocks.specs.Blocks.{joined, IsNotEmpty}
use Rattle.sstable_blocks.specs.Filter.{bit_count}
use Rattle.sstable_blocks.specs.Run.{Form, block_payload, block_frame, block_frames, filter_frame, handles_from, key_hashes, IsFilterText, IsFramed, IsLayout, IsWritable, RunFits}
use Rattle.sstable_blocks.specs.RunReading.{Hashes}
use Rattle.sstable_blocks.specs.Sound.{AreContiguous}
use Rattle.sstable_blocks.specs.Writing.{PartFits}
use Rattle.sstable_blocks.specs.declared.run.RunConfig.{RunConfig}
use Rattle.sstable_blocks.specs.declared.run.RunHandles.{RunHandles}
use Rattle.sst_calls.specs.Given.{AreKept, CanEncode, IsWrittenOut}
use Rattle.sst_calls.specs.Index.{handle_given, CanEncodeHandles}
use Rattle.sst_calls.specs.Runs.{handles_given, run_form, AreTold, config_given}
use Rattle.sst_calls.specs.declared.codes.Status.{Status}
use Rattle.sst_calls.specs.declared.codes.Status.TheVariants.{Done, Failed, BadArgument, NoRoom}
use Rattle.sst_calls.specs.declared.entries.SstEntry.{SstEntry}
use Rattle.sst_calls.specs.declared.handles.SstKeyedHandle.{SstKeyedHandle}
use Rattle.sst_calls.specs.declared.run.SstRunHandles.{SstRunHandles}
use Rattle.sst_calls.specs.Hashing.{IsHashed, hash_given, hashes_of}
use Rattle.sst_calls.specs.declared.run.SstRunConfig.{SstRunConfig}

-- these entries are the ones given, and can be written as a block of a run; an array of this length has an element for
-- the hash of each key, if there is a filter
pub record CanWriteBlock (given : List SstEntry) (config : RunConfig) (capacity : ℕ) (items : List Entry) : Type 0 where
  pub can : CanEncode given config.restart_interval config.ratio.den items
  pub index_interval : 1 ≤ config.index_interval
  pub hashed : 1 ≤ config.bits_per_key → length items ≤ capacity

-- a block was not written: it is too long, or an allocation failed
pub record IsBlockFailure (c : Hashes) (given : List SstEntry) (config : RunConfig) (capacity : ℕ) (old new : List ℕ) (len_old len_new : ℕ) (e : Error) : Type 0 where
  pub cause : (e ≡ Memory) ⊎ ((e ≡ TooLong) × ((items : List Entry) × CanWriteBlock given config capacity items × (IsFramed (block_payload (run_form c config) items) → ⊥)))
  pub kept : AreKept old new len_old len_new

-- the first elements of an array are these hashes, if there is a filter, and the others are left
pub record AreHashed (bits : ℕ) (hashes old new : List ℕ) : Type 0 where
  pub hashed : 1 ≤ bits → new ≡ hashes ++ drop (length hashes) old
  pub kept : bits ≡ 0 → new ≡ old

-- hashes are written where the block is, and else none
abbrev pub AreHashedIf : ℕ → List ℕ → List ℕ → List ℕ → Status → Type 0
AreHashedIf bits hashes old new Done = AreHashed bits hashes old new
AreHashedIf bits hashes old new _ = new ≡ old

-- what becomes of a block that is written, whose frame fits a handle: an argument is refused exactly if the entries can't be
-- written so
abbrev pub IsBlockWrite : Hashes → List SstEntry → RunConfig → List ℕ → List ℕ → ℕ → ℕ → List ℕ → List ℕ → Status → Type 0
IsBlockWrite c given config old new len_old len_new h_old h_new BadArgument =
    ((items : List Entry) → CanWriteBlock given config (length h_old) items → ⊥) × AreKept old new len_old len_new × (h_new ≡ h_old)
IsBlockWrite c given config old new len_old len_new h_old h_new (Failed e) = IsBlockFailure c given config (length h_old) old new len_old len_new e × (h_new ≡ h_old)
IsBlockWrite c given config old new len_old len_new h_old h_new s =
    (items : List Entry) × CanWriteBlock given config (length h_old) items × IsFramed (block_payload (run_form c config) items)
    × IsWrittenOut (block_frame (run_form c config) items) old new len_new s × AreHashedIf config.bits_per_key (key_hashes c.hash64 items) h_old h_new s

-- the number of bytes of the frames of handles
abbrev pub frames_length : List Handle → ℕ
frames_length [] = 0
frames_length (h ∷ hs) = h.size + frames_length hs

-- the length of the frame of a filter of so many hashes; its payload has 22 bytes and its bits
abbrev pub filter_length : ℕ → ℕ → ℕ
filter_length bits count = if bits == 0 then 0 else 55 + bit_count count bits / 8

-- the frame of the index of handles
abbrev pub end_index : Form → List Handle → List ℕ
end_index f hs = frame f.hash128 Index (index_payload hs f.config.index_interval)

-- where the index of handles and a filter are, after the frames of these handles
abbrev pub end_handles : Form → List Handle → List ℕ → RunHandles
end_handles f hs p = record {
  index = record { offset = frames_length hs; size = length (end_index f hs) };
  filter = if f.config.bits_per_key == 0 then None
      else Some (record { offset = frames_length hs + length (end_index f hs); size = length (filter_frame f p) });
}

-- the frames of an index and of a filter fit their handles, the filter the limit of bits, and all bytes of the run 64 bits
pub record EndFitsRun (f : Form) (hs : List Handle) (count : ℕ) : Type 0 where
  pub index_frame_fits : IsFramed (index_payload hs f.config.index_interval)
  pub bits : count * f.config.bits_per_key ≤ 34359737920
  pub end : frames_length hs + (length (end_index f hs) + filter_length f.config.bits_per_key count) < 2 ^ 64

-- bytes are the frames of the index of these handles and of the filter of these hashes, if there are bits, and fit; these
-- are their handles in a run
pub record IsRunEnd (f : Form) (hs : List Handle) (hashes : List ℕ) (bytes : List ℕ) (h : RunHandles) : Type 0 where
  pub fits : EndFitsRun f hs (length hashes)
  pub filter : List ℕ
  pub filter_is : 1 ≤ f.config.bits_per_key → IsFilterText hashes f.config.bits_per_key filter
  pub text : bytes ≡ end_index f hs ++ filter_frame f filter
  pub handles : h ≡ end_handles f hs filter

-- a run can end with these handles and hashes: the frames of the handles follow each other from offset 0, an index can be
-- made of the handles, and there is a hash, if there is a filter
pub record CanEnd (given : List SstKeyedHandle) (hashes : List ℕ) (config : RunConfig) : Type 0 where
  pub can : CanEncodeHandles given config.index_interval
  pub contiguous : AreContiguous 0 (map handle_given given)
  pub hashed : 1 ≤ config.bits_per_key → 1 ≤ length hashes
  pub writable : IsWritable config

-- the end of a run was not written: it is too long, or an allocation failed
pub record IsEndFailure (c : Hashes) (given : List SstKeyedHandle) (hashes : List ℕ) (config : RunConfig) (old new : List ℕ) (len_old len_new : ℕ) (e : Error) : Type 0 where
  pub cause : (e ≡ Memory) ⊎ ((e ≡ TooLong) × CanEnd given hashes config × (EndFitsRun (run_form c config) (map handle_given given) (length hashes) → ⊥))
  pub kept : AreKept old new len_old len_new

-- what becomes of the end of a run that is written: an argument is refused exactly if no run can end so
abbrev pub IsEndWrite : Hashes → List SstKeyedHandle → List ℕ → RunConfig → List ℕ → List ℕ → ℕ → ℕ → SstRunHandles → SstRunHandles → Status → Type 0
IsEndWrite c given hashes config old new len_old len_new h_old h_new BadArgument = (CanEnd given hashes config → ⊥) × AreKept old new len_old len_new × (h_new ≡ h_old)
IsEndWrite c given hashes config old new len_old len_new h_old h_new (Failed e) = IsEndFailure c given hashes config old new len_old len_new e × (h_new ≡ h_old)
IsEndWrite c given hashes config old new len_old len_new h_old h_new s =
    CanEnd given hashes config
    × ((bytes : List ℕ) × (h : RunHandles) × IsRunEnd (run_form c config) (map handle_given given) hashes bytes h × IsWrittenOut bytes old new len_new s × AreTold h h_old h_new s)

-- handles and hashes are those of these blocks, each of which can be written, and which are in order: the handles those of
-- the blocks' frames, one after the other from offset 0, the hashes those of all keys, if there is a filter
pub record AreOfBlocks (f : Form) (blocks : List (List Entry)) (hs : List Handle) (hashes : List ℕ) : Type 0 where
  pub some : 1 ≤ length blocks
  pub all_some : AllByRecursion IsNotEmpty blocks
  pub valid : AllByRecursion IsEntry (joined blocks)
  pub ordered : IsOrdered entries (joined blocks)
  pub framed : AllByRecursion (λ block. IsFramed (block_payload f block)) blocks
  pub end : length (block_frames f blocks) < 2 ^ 64
  pub writable : IsWritable f.config
  pub handles : hs ≡ handles_from f 0 blocks
  pub hashed : 1 ≤ f.config.bits_per_key → hashes ≡ key_hashes f.hash64 (joined blocks)

-- what a call that ends a run says of these blocks: what it writes after their frames makes them a run, which its handles
-- are of, and it fails only where that run does not fit, or by an allocation
abbrev pub EndsRunOf : Form → List (List Entry) → List ℕ → ℕ → SstRunHandles → Status → Type 0
EndsRunOf f blocks new len h Done = IsLayout f blocks (block_frames f blocks ++ take len new) (handles_given h)
EndsRunOf f blocks new len h (Failed e) = (e ≡ Memory) ⊎ ((e ≡ TooLong) × (RunFits f blocks → ⊥))
EndsRunOf f blocks new len h NoRoom = Unit {0}
EndsRunOf f blocks new len h _ = ⊥

-- the same of all blocks that handles and hashes are those of
abbrev pub EndsRun : Form → List Handle → List ℕ → List ℕ → ℕ → SstRunHandles → Status → Type 0
EndsRun f hs hashes new len h s = (blocks : List (List Entry)) → AreOfBlocks f blocks hs hashes → EndsRunOf f blocks new len h s

-- bytes grew by the frame of a payload that fits at an offset, whose handle this is
pub record IsPartAppended (hash : List ℕ → ℕ) (t : BlockType) (at : ℕ) (payload old new : List ℕ) (h : HandleParts) : Type 0 where
  pub bytes : new ≡ old ++ frame hash t payload
  pub handle : h ≡ record { offset = at; size = 33 + length payload }
  pub fits : PartFits at payload

-- bytes grew by the frame of the filter of hashes at an offset, if there are bits, and this is its handle
abbrev pub IsFilterAppended : (List ℕ → ℕ) → ℕ → List ℕ → ℕ → List ℕ → List ℕ → Option HandleParts → Type 0
IsFilterAppended hash bits hashes at old new None = (bits ≡ 0) × (new ≡ old)
IsFilterAppended hash bits hashes at old new (Some h) =
    (1 ≤ bits) × (length hashes * bits ≤ 34359737920) × ((p : List ℕ) × IsFilterText hashes bits p × IsPartAppended hash Filter at p old new h)

-- the filter of so many hashes fits after an offset
abbrev pub FilterFits : ℕ → ℕ → ℕ → Type 0
FilterFits bits count at = (count * bits ≤ 34359737920) × (at + filter_length bits count < 2 ^ 64)

-- both by a configuration that is given
abbrev pub IsBlockWriteBy : List SstEntry → SstRunConfig → List ℕ → List ℕ → ℕ → ℕ → List ℕ → List ℕ → Status → Type 0
IsBlockWriteBy given config old new len_old len_new h_old h_new s =
    IsHashed (hash_given config.hash) s (AreKept old new len_old len_new × (h_new ≡ h_old)) (λ k. IsBlockWrite (hashes_of k) given (config_given config) old new len_old len_new h_old h_new s)

abbrev pub IsEndWriteBy : List SstKeyedHandle → List ℕ → SstRunConfig → List ℕ → List ℕ → ℕ → ℕ → SstRunHandles → SstRunHandles → Status → Type 0
IsEndWriteBy given hashes config old new len_old len_new h_old h_new s =
    IsHashed (hash_given config.hash) s (AreKept old new len_old len_new × (h_new ≡ h_old))
    (λ k. IsEndWrite (hashes_of k) given hashes (config_given config) old new len_old len_new h_old h_new s × EndsRun (run_form (hashes_of k) (config_given config)) (map handle_given given) hashes new len_new h_new s)
