-- Tables: runs in a source, whose filter and index are read once.
use Rattle.std.specs.Prelude.{◌≡◌, ℕ, ◌<◌, nat_lt, if◌then◌else◌, Bool, true, false, List, length, Option, Some, None, IfSome, Result, Ok, Err}
use Rattle.std.specs.Option.{option_map}
use Rattle.sst_base.specs.BlockHandle.{HandleParts}
use Rattle.sst_base.specs.Counted.{Counted, CountsExactly, found_item}
use Rattle.sst_base.specs.Entry.{Entry}
use Rattle.sst_base.specs.Header.{◌>>=◌}
use Rattle.sst_base.specs.declared.error.Error.{Error}
use Rattle.sst_base.specs.declared.table.block.block_type.BlockType.TheVariants as types
use Rattle.sst_block_core.specs.Entries.{entries}
use Rattle.sst_block_core.specs.Handles.{Handle, handles}
use Rattle.sst_block_core.specs.Stages.{items_in}
use Rattle.sstable_blocks.specs.Filter.{filter_at}
use Rattle.sstable_blocks.specs.Footer.{table_handles}
use Rattle.sstable_blocks.specs.Lookup.{handle_for, place_for}
use Rattle.sstable_blocks.specs.Opened.{index_in, payload_in, range_of}
use Rattle.sstable_blocks.specs.ReadCosts.{interval_in}
use Rattle.sstable_blocks.specs.RunReading.{Hashes, payload_at, handles_at, filter_answer, read_block}
use Rattle.sstable_blocks.specs.declared.run.RunHandles.{RunHandles}
use Rattle.sstable_blocks.specs.declared.run.table.OpenError.{OpenError}

-- what contracts see of a table: its source and its handles, and what is kept of it: the payload of its filter, if it
-- has one, the handles of its index, and the restart interval of the index
pub record TableParts (S : Type 0) : Type 0 where
  pub source : S
  pub handles : RunHandles
  pub filter : Option (List ℕ)
  pub index : List Handle
  pub interval : ℕ

-- the same without the source
pub record KeptParts : Type 0 where
  pub handles : RunHandles
  pub filter : Option (List ℕ)
  pub index : List Handle
  pub interval : ℕ

abbrev pub kept_parts : {S : Type 0} → TableParts S → KeptParts
kept_parts t = record { handles = t.handles; filter = t.filter; index = t.index; interval = t.interval }

-- both
abbrev pub table_of : {S : Type 0} → S → KeptParts → TableParts S
table_of source r = record { source = source; handles = r.handles; filter = r.filter; index = r.index; interval = r.interval }

-- the payload of the filter of a run, if it has one
abbrev pub filter_kept : Hashes → List ℕ → Option HandleParts → Result (Option (List ℕ)) Error
filter_kept c bytes None = Ok None
filter_kept c bytes (Some h) = do
  p ← payload_at c types.Filter bytes h
  f ← filter_at p
  Ok (Some p)

-- what is kept of a run: filter, then index
unfoldable pub kept_of : Hashes → List ℕ → RunHandles → Result (Option (List ℕ) × List Handle) Error
kept_of c bytes h = do
  filter ← filter_kept c bytes h.filter
  hs ← handles_at c bytes h.index
  Ok (filter, hs)

-- what is kept of a table file, by its footer: handles, filter, index
unfoldable pub kept_by_footer : Hashes → List ℕ → Result (RunHandles × Option (List ℕ) × List Handle) Error
kept_by_footer c bytes = do
  h ← table_handles bytes
  kept ← kept_of c bytes h
  Ok (h, kept.0, kept.1)

-- handles and a restart interval are those of the index block in the range of a handle
pub record IsIndexIn (bytes : List ℕ) (h : HandleParts) (index : List Handle) (interval : ℕ) : Type 0 where
  pub index_is : index ≡ index_in bytes h
  pub interval_is : interval ≡ interval_in bytes h

-- entries and a restart interval are those of the data block in the range of a handle
pub record IsBlockIn (bytes : List ℕ) (h : HandleParts) (items : List Entry) (interval : ℕ) : Type 0 where
  pub items_is : items ≡ items_in entries (payload_in bytes h)
  pub interval_is : interval ≡ interval_in bytes h

-- a filter's payload, handles and a restart interval are those of a run's bytes
pub record IsKeptOf (c : Hashes) (h : RunHandles) (filter : Option (List ℕ)) (index : List Handle) (interval : ℕ) (bytes : List ℕ) : Type 0 where
  pub filter_is : filter_kept c bytes h.filter ≡ Ok filter
  pub index_is : handles_at c bytes h.index ≡ Ok index
  pub place : IsIndexIn bytes h.index index interval

-- a run was opened of bytes, if these are known
abbrev pub IsOpenedOf : Hashes → Option (List ℕ) → KeptParts → Type 0
IsOpenedOf c bytes r = IfSome bytes (IsKeptOf c r.handles r.filter r.index r.interval)

-- can a run have the needle, by the filter that was kept?
abbrev pub kept_says : (List ℕ → ℕ) → Option (List ℕ) → List ℕ → Result Bool Error
kept_says hash64 None needle = Ok true
kept_says hash64 (Some p) needle = filter_answer p (hash64 needle)

-- the index of the block that can hold a key below a sequence number, if there is such a block
abbrev pub block_place : List Handle → List ℕ → ℕ → Option ℕ
block_place hs needle seqno = if nat_lt (place_for handles needle seqno hs) (length hs) then Some (place_for handles needle seqno hs) else None

-- the same by what was kept: none where the filter rules the key out
abbrev pub located : (List ℕ → ℕ) → Option (List ℕ) → List Handle → List ℕ → ℕ → Result (Option ℕ) Error
located hash64 filter hs needle seqno = do
  may ← kept_says hash64 filter needle
  Ok (if may then block_place hs needle seqno else None)

-- where the block is that can hold a key below a sequence number, if there is one, by what was kept
abbrev pub found_block : (List ℕ → ℕ) → Option (List ℕ) → List Handle → List ℕ → ℕ → Result (Option HandleParts) Error
found_block hash64 filter hs needle seqno = do
  may ← kept_says hash64 filter needle
  Ok (if may then option_map range_of (handle_for handles needle seqno hs) else None)

-- the first match by the filter and the handles that were kept
abbrev pub read_kept : Hashes → List ℕ → Option (List ℕ) → List Handle → List ℕ → ℕ → Result (Option Entry) Error
read_kept c bytes filter hs needle seqno = do
  may ← kept_says c.hash64 filter needle
  if may then read_block c bytes (handle_for handles needle seqno hs) needle seqno else Ok None

-- how many frames are asked for where the filter says this, by the handle of the block that can hold the key, if there is
-- one: that block's, where the key is allowed
abbrev pub frames_by : Result Bool Error → Option Handle → ℕ
frames_by (Ok true) h = found_item h
frames_by (Ok false) h = 0
frames_by (Err e) h = 0

-- the source of a table, or of what was not opened
abbrev pub source_after : {S : Type 0} → Result (TableParts S) (OpenError S) → S
source_after (Ok t) = t.source
source_after (Err e) = e.source

-- a table, or the error for which it was not opened
abbrev pub error_after : {S : Type 0} → Result (TableParts S) (OpenError S) → Result (TableParts S) Error
error_after (Ok t) = Ok t
error_after (Err e) = Err e.error

-- what is counted where the filter says this: at least a head of the index where it allows the key, else nothing
abbrev pub LooksBy : Result Bool Error → Counted → Counted → Type 0
LooksBy (Ok true) old new = old.heads < new.heads
LooksBy (Ok false) old new = CountsExactly old new 0 0
LooksBy (Err e) old new = CountsExactly old new 0 0
