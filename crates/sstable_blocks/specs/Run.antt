-- Runs: ordered entries in blocks, and the bytes that they are written as.
use Rattle.std.specs.Prelude.{◌≡◌, ℕ, ◌+◌, ◌*◌, ◌/◌, ◌≤◌, ◌<◌, ◌^◌, ◌==◌, if◌then◌else◌, List, [], ◌∷◌, ◌++◌, length, map, Some, None}
use Rattle.std.specs.List.{AllByRecursion}
use Rattle.sst_base.specs.Key.{Key}
use Rattle.sst_base.specs.Entry.{Entry, IsEntry}
use Rattle.sst_base.specs.Frame.{frame}
use Rattle.sst_base.specs.declared.table.block.block_type.BlockType.TheVariants.{Data, Index, Filter}
use Rattle.sst_base.specs.declared.value_type.ValueType.TheVariants.{Value}
use Rattle.sst_block_core.specs.Kind.{IsOrdered}
use Rattle.sst_block_core.specs.Body.{IsInterval}
use Rattle.sst_block_core.specs.Buckets.{bucket_count}
use Rattle.sst_block_core.specs.Entries.{entries, data_payload}
use Rattle.sst_block_core.specs.Handles.{Handle, index_payload}
use Rattle.sstable_blocks.specs.Blocks.{joined, IsNotEmpty}
use Rattle.sstable_blocks.specs.Filter as filters
use Rattle.sstable_blocks.specs.declared.run.RunConfig.{RunConfig}
use Rattle.sstable_blocks.specs.declared.run.RunHandles.{RunHandles}

-- runs can be written so: both intervals and the denominator of the ratio are at least 1
abbrev pub IsWritable : RunConfig → Type 0
IsWritable config = (1 ≤ config.restart_interval) × (1 ≤ config.index_interval) × (1 ≤ config.ratio.den)

-- how a run is written: the two hashes of bytes, and the configuration
pub record Form : Type 0 where
  pub hash64 : List ℕ → ℕ
  pub hash128 : List ℕ → ℕ
  pub config : RunConfig

abbrev pub form : (List ℕ → ℕ) → (List ℕ → ℕ) → RunConfig → Form
form hash64 hash128 config = record { hash64 = hash64; hash128 = hash128; config = config }

-- the payload of a block, and its frame
unfoldable pub block_payload : Form → List Entry → List ℕ
block_payload f block = data_payload f.hash64 block f.config.restart_interval (bucket_count f.config.ratio.num f.config.ratio.den (length block))

abbrev pub block_frame : Form → List Entry → List ℕ
block_frame f block = frame f.hash128 Data (block_payload f block)

-- the frames of blocks, one after the other
abbrev pub block_frames : Form → List (List Entry) → List ℕ
block_frames f [] = []
block_frames f (block ∷ blocks) = block_frame f block ++ block_frames f blocks

-- the key of the last entry
abbrev pub end_key_of : List Entry → Key
end_key_of [] = record { user_key = []; seqno = 0; value_type = Value }
end_key_of (x ∷ []) = x.key
end_key_of (x ∷ y ∷ ys) = end_key_of (y ∷ ys)

-- the handle of a block whose frame is at an offset
abbrev pub handle_of : Form → ℕ → List Entry → Handle
handle_of f offset block = record { offset = offset; size = length (block_frame f block); seqno = (end_key_of block).seqno; end_key = (end_key_of block).user_key }

-- the handles of blocks whose frames are one after the other from an offset on
abbrev pub handles_from : Form → ℕ → List (List Entry) → List Handle
handles_from f offset [] = []
handles_from f offset (block ∷ blocks) = handle_of f offset block ∷ handles_from f (offset + length (block_frame f block)) blocks

-- the payload of the index, and its frame
unfoldable pub index_text : Form → List (List Entry) → List ℕ
index_text f blocks = index_payload (handles_from f 0 blocks) f.config.index_interval

abbrev pub index_frame : Form → List (List Entry) → List ℕ
index_frame f blocks = frame f.hash128 Index (index_text f blocks)

-- the hashes of the keys of entries, repeated ones included
abbrev pub key_hashes : (List ℕ → ℕ) → List Entry → List ℕ
key_hashes hash64 items = map (λ e. hash64 e.key.user_key) items

-- bytes are the payload of the filter of these hashes, at this number of bits for each
pub record IsFilterText (hashes : List ℕ) (bits : ℕ) (p : List ℕ) : Type 0 where
  pub filter : filters.Filter
  pub m : filter.m ≡ filters.bit_count (length hashes) bits
  pub k : filter.k ≡ filters.probe_count bits
  pub inserted : filters.IsFilterOf hashes filter
  pub text : p ≡ filters.filter_payload filter

-- the frame of a filter's payload, if there are bits
abbrev pub filter_frame : Form → List ℕ → List ℕ
filter_frame f p = if f.config.bits_per_key == 0 then [] else frame f.hash128 Filter p

-- the bytes of a run: the frames of its blocks, of its index, and of a filter's payload
unfoldable pub run_text : Form → List (List Entry) → List ℕ → List ℕ
run_text f blocks p = block_frames f blocks ++ (index_frame f blocks ++ filter_frame f p)

-- where the index and the filter are
unfoldable pub run_handles : Form → List (List Entry) → List ℕ → RunHandles
run_handles f blocks p = record {
  index = record { offset = length (block_frames f blocks); size = length (index_frame f blocks) };
  filter = if f.config.bits_per_key == 0 then None
      else Some (record { offset = length (block_frames f blocks) + length (index_frame f blocks); size = length (filter_frame f p) });
}

-- the length of a run's bytes; a filter's payload has 22 bytes and its bits
abbrev pub filter_frame_length : Form → List (List Entry) → ℕ
filter_frame_length f blocks = if f.config.bits_per_key == 0 then 0 else 55 + filters.bit_count (length (joined blocks)) f.config.bits_per_key / 8

abbrev pub run_length : Form → List (List Entry) → ℕ
run_length f blocks = length (block_frames f blocks) + (length (index_frame f blocks) + filter_frame_length f blocks)

-- a payload after a handle: with its header it has at most 2^32 - 1 bytes
abbrev pub IsFramed : List ℕ → Type 0
IsFramed payload = length payload ≤ 4294967262

-- blocks are a run: not empty, ordered, of entries within the limits, at intervals from 1 to 255
pub record IsRun (f : Form) (blocks : List (List Entry)) : Type 0 where
  pub some : 1 ≤ length blocks
  pub all_some : AllByRecursion IsNotEmpty blocks
  pub valid : AllByRecursion IsEntry (joined blocks)
  pub ordered : IsOrdered entries (joined blocks)
  pub interval : IsInterval f.config.restart_interval
  pub index_interval : IsInterval f.config.index_interval

-- its frames fit their handles, its filter the limit of bits, and all bytes 64 bits
pub record RunFits (f : Form) (blocks : List (List Entry)) : Type 0 where
  pub data_frames_fit : AllByRecursion (λ block. IsFramed (block_payload f block)) blocks
  pub index_frame_fits : IsFramed (index_text f blocks)
  pub bits : length (joined blocks) * f.config.bits_per_key ≤ 34359737920
  pub end : run_length f blocks < 2 ^ 64

-- the layout of a run that fits: these bytes and these handles, with the filter of all its keys
pub record IsLayout (f : Form) (blocks : List (List Entry)) (bytes : List ℕ) (h : RunHandles) : Type 0 where
  pub run : IsRun f blocks
  pub fits : RunFits f blocks
  pub filter : List ℕ
  pub filter_is : 1 ≤ f.config.bits_per_key → IsFilterText (key_hashes f.hash64 (joined blocks)) f.config.bits_per_key filter
  pub text : bytes ≡ run_text f blocks filter
  pub handles : h ≡ run_handles f blocks filter
