-- Sound runs: bytes and handles that read right, whatever configuration wrote them.
use Rattle.std.specs.Prelude.{◌≡◌, ℕ, ◌+◌, List, [], ◌∷◌, IfOk, IfSome, Ok, Option, Result}
use Rattle.std.specs.List.{AllZip, AllByRecursion}
use Rattle.sst_base.specs.BlockHandle.{HandleParts}
use Rattle.sst_base.specs.Entry.{Entry, IsEntry}
use Rattle.sst_base.specs.declared.error.Error.{Error}
use Rattle.sst_base.specs.declared.table.block.block_type.BlockType.TheVariants as types
use Rattle.sst_block_core.specs.Entries.{entries}
use Rattle.sst_block_core.specs.Kind.{IsOrdered}
use Rattle.sst_block_core.specs.Payload.{IsBlock}
use Rattle.sst_block_core.specs.Window.{first_match}
use Rattle.sst_block_core.specs.Handles.{Handle, handles, IsIndexBlock}
use Rattle.sstable_blocks.specs.Blocks.{joined}
use Rattle.sstable_blocks.specs.Filter.{Filter, filter_at, MayContain}
use Rattle.sstable_blocks.specs.Lookup.{IsEnd}
use Rattle.sstable_blocks.specs.Opened.{range_of}
use Rattle.sstable_blocks.specs.Run.{IsFramed}
use Rattle.sstable_blocks.specs.RunChecks.{summary_of}
use Rattle.sstable_blocks.specs.RunReading.{Hashes, IsFramedAt}
use Rattle.sstable_blocks.specs.declared.run.RunHandles.{RunHandles}
use Rattle.sstable_blocks.specs.declared.run.checking.RunSummary.{RunSummary}

-- in the range of a handle is the frame of a data block that encodes these entries, at an interval and a number of
-- buckets of its own; the handle has the key and the sequence number of the last entry
pub record IsStoredBlock (c : Hashes) (bytes : List ℕ) (block : List Entry) (h : Handle) : Type 0 where
  pub payload : List ℕ
  pub frame : IsFramedAt c types.Data bytes (range_of h) payload
  pub interval : ℕ
  pub buckets : ℕ
  pub is_block : IsBlock entries IsEntry c.hash64 payload block interval buckets
  pub end : IsEnd entries handles block h

-- in the range of a handle is the frame of an index block that encodes these handles, at an interval of its own
pub record IsStoredIndex (c : Hashes) (bytes : List ℕ) (hs : List Handle) (h : HandleParts) : Type 0 where
  pub payload : List ℕ
  pub frame : IsFramedAt c types.Index bytes h payload
  pub framed : IsFramed payload
  pub interval : ℕ
  pub is_block : IsIndexBlock payload hs interval

-- in the range of a handle is the frame of a filter in which the bits of all probes of each entry's key are set
pub record IsStoredFilter (c : Hashes) (bytes : List ℕ) (items : List Entry) (h : HandleParts) : Type 0 where
  pub payload : List ℕ
  pub frame : IsFramedAt c types.Filter bytes h payload
  pub framed : IsFramed payload
  pub filter : Filter
  pub reads : filter_at payload ≡ Ok filter
  pub contains : AllByRecursion (λ x. MayContain filter (c.hash64 x.key.user_key)) items

-- the ranges of handles follow each other without a gap, from an offset on
abbrev pub AreContiguous : ℕ → List Handle → Type 0
AreContiguous offset [] = Unit {0}
AreContiguous offset (h ∷ hs) = (h.offset ≡ offset) × AreContiguous (offset + h.size) hs

-- bytes with these handles are a run of these blocks: an index of the blocks' frames, which follow each other from
-- offset 0; the blocks, whose entries are ordered across blocks; and, if there is one, a filter of all keys
pub record IsSound (c : Hashes) (blocks : List (List Entry)) (bytes : List ℕ) (h : RunHandles) : Type 0 where
  pub handles : List Handle
  pub index : IsStoredIndex c bytes handles h.index
  pub stored : AllZip (IsStoredBlock c bytes) blocks handles
  pub contiguous : AreContiguous 0 handles
  pub ordered : IsOrdered entries (joined blocks)
  pub filter : IfSome h.filter (IsStoredFilter c bytes (joined blocks))

-- bytes with these handles are a sound run of some blocks
abbrev pub IsSoundRun : Hashes → List ℕ → RunHandles → Type 0
IsSoundRun c bytes h = (blocks : List (List Entry)) × IsSound c blocks bytes h

-- what holds of the blocks, if bytes with these handles are a sound run
abbrev pub ForSound : Hashes → List ℕ → RunHandles → (List (List Entry) → Type 0) → Type 0
ForSound c bytes h holds = (blocks : List (List Entry)) → IsSound c blocks bytes h → holds blocks

-- of bytes that are a sound run, a result is the first match of its entries
abbrev pub FindsFirst : Hashes → RunHandles → List ℕ → ℕ → Result (Option Entry) Error → List ℕ → Type 0
FindsFirst c h needle seqno result bytes = ForSound c bytes h (λ blocks. IfOk result (λ found. found ≡ first_match entries needle seqno (joined blocks)))

-- bytes with these handles are a sound run, and this is the summary of its blocks
abbrev pub IsSummary : Hashes → List ℕ → RunHandles → RunSummary → Type 0
IsSummary c bytes h summary = (blocks : List (List Entry)) × IsSound c blocks bytes h × (summary ≡ summary_of blocks)

-- what contracts see of a run in memory that was checked
pub record RunParts : Type 0 where
  pub bytes : List ℕ
  pub handles : RunHandles
