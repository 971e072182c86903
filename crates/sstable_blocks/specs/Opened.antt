-- What a reader finds in a run.
use Rattle.std.specs.Prelude.{◌≡◌, ℕ, ◌+◌, ◌-◌, ◌≤◌, List, length, map, take, drop, slice_get, Option, Some, None, IfSome, Ok}
use Rattle.std.specs.Option.{option_map}
use Rattle.sst_base.specs.BlockHandle.{HandleParts}
use Rattle.sst_base.specs.Entry.{Entry, IsEntry, plain}
use Rattle.sst_block_core.specs.Entries.{entries}
use Rattle.sst_block_core.specs.Handles.{Handle, handles, IsIndexBlock}
use Rattle.sst_block_core.specs.ParsedEntry.{entry_of, IsParsedEntry}
use Rattle.sst_block_core.specs.declared.table.data_block.parsed_item.DataBlockParsedItem.{DataBlockParsedItem}
use Rattle.sst_block_core.specs.Payload.{IsBlock}
use Rattle.sst_block_core.specs.Stages.{items_in}
use Rattle.sst_block_core.specs.Window.{first_match}
use Rattle.sstable_blocks.specs.Blocks.{joined}
use Rattle.sstable_blocks.specs.Filter.{Filter, filter_at, MayContain}
use Rattle.sstable_blocks.specs.Lookup.{first_in, place_for}
use Rattle.sstable_blocks.specs.declared.run.RunHandles.{RunHandles}

-- the range of a handle
abbrev pub range_of : Handle → HandleParts
range_of h = record { offset = h.offset; size = h.size }

-- a handle's range lies in bytes, and a header in the range
pub record IsFrameRange (bytes : List ℕ) (h : HandleParts) : Type 0 where
  pub inside : h.offset + h.size ≤ length bytes
  pub header : 33 ≤ h.size

-- the payload in the range of a frame
unfoldable pub payload_in : List ℕ → HandleParts → List ℕ
payload_in bytes h = take (h.size - 33) (drop (h.offset + 33) bytes)

-- the handles of the index in the range of a frame
abbrev pub index_in : List ℕ → HandleParts → List Handle
index_in bytes h = items_in handles (payload_in bytes h)

-- the filter in a frame, if there is one, can be read, and the bits of all probes of a hash are not set in it
abbrev pub IsDenied : List ℕ → Option HandleParts → ℕ → Type 0
IsDenied bytes None hash = ⊥
IsDenied bytes (Some h) hash = (f : Filter) × (filter_at (payload_in bytes h) ≡ Ok f) × (MayContain f hash → ⊥)

-- a filter that was read, if there is one, is that in the frame of a handle; it is none where that can't be read
abbrev pub IsFilterIn : List ℕ → Option HandleParts → Option Filter → Type 0
IsFilterIn bytes None filter = filter ≡ None
IsFilterIn bytes (Some h) None = (f : Filter) → filter_at (payload_in bytes h) ≡ Ok f → ⊥
IsFilterIn bytes (Some h) (Some f) = filter_at (payload_in bytes h) ≡ Ok f

-- what contracts see of the filter of a run: the bytes, and its handle, if there is one
pub record FilterPlace : Type 0 where
  pub bytes : List ℕ
  pub handle : Option HandleParts

-- the bits of all probes of a hash are not set in a filter, if there is one
abbrev pub RulesOut : Option Filter → ℕ → Type 0
RulesOut None hash = ⊥
RulesOut (Some f) hash = MayContain f hash → ⊥

-- in the range of a handle is the frame of a block of a run
pub record IsOpen (hash64 : List ℕ → ℕ) (bytes : List ℕ) (h : HandleParts) (block : List Entry) : Type 0 where
  pub range : IsFrameRange bytes h
  pub interval : ℕ
  pub buckets : ℕ
  pub is_block : IsBlock entries IsEntry hash64 (payload_in bytes h) block interval buckets
  pub items : items_in entries (payload_in bytes h) ≡ map plain block
  pub first : (needle : List ℕ) (seqno : ℕ) → first_match entries needle seqno (items_in entries (payload_in bytes h)) ≡ first_match entries needle seqno block

-- what a reader finds: an index with a handle for each block, the blocks where these say, and a filter that rules out
-- no key of the run
pub record Opened (hash64 : List ℕ → ℕ) (blocks : List (List Entry)) (bytes : List ℕ) (h : RunHandles) : Type 0 where
  pub index_range : IsFrameRange bytes h.index
  pub index_interval : ℕ
  pub index_block : IsIndexBlock (payload_in bytes h.index) (index_in bytes h.index) index_interval
  pub count : length (index_in bytes h.index) ≡ length blocks
  pub found : (needle : List ℕ) (seqno : ℕ) → first_match entries needle seqno (joined blocks) ≡ first_in entries needle seqno (slice_get blocks (place_for handles needle seqno (index_in bytes h.index)))
  pub block_open : (n : ℕ) (g : Handle) → slice_get (index_in bytes h.index) n ≡ Some g → (block : List Entry) × (slice_get blocks n ≡ Some block) × IsOpen hash64 bytes (range_of g) block
  pub none_open : (n : ℕ) → slice_get (index_in bytes h.index) n ≡ None → slice_get blocks n ≡ None
  pub filter_range : IfSome h.filter (IsFrameRange bytes)
  pub filter_reads : IfSome h.filter (λ g. (x : Filter) × (filter_at (payload_in bytes g) ≡ Ok x))
  pub filter_denies : (needle : List ℕ) (seqno : ℕ) → IsDenied bytes h.filter (hash64 needle) → first_match entries needle seqno (joined blocks) ≡ None

-- an item that was found, if one was, is parsed in the payload of its block, whose frame is in the bytes
abbrev pub IsFoundIn : List ℕ → Option (HandleParts × DataBlockParsedItem) → Type 0
IsFoundIn bytes None = Unit {0}
IsFoundIn bytes (Some f) = IsFrameRange bytes f.0 × IsParsedEntry (payload_in bytes f.0) f.1

-- the entry that was found, if one was
abbrev pub found_entry : List ℕ → Option (HandleParts × DataBlockParsedItem) → Option Entry
found_entry bytes found = option_map (λ f. entry_of (payload_in bytes f.0) f.1) found
