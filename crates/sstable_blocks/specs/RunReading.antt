-- Reading a run from bytes of any kind, in stages: the first error met is returned.
use Rattle.std.specs.Prelude.{◌≡◌, ◌⊎◌, ℕ, ◌+◌, ◌≤◌, nat_le, if◌then◌else◌, Bool, true, List, length, take, drop, Option, Some, None, Result, Ok, Err}
use Rattle.sst_base.specs.BlockHandle.{HandleParts}
use Rattle.sst_base.specs.Entry.{Entry}
use Rattle.sst_base.specs.Frame.{frame, payload_of_type}
use Rattle.sst_base.specs.Header.{◌>>=◌}
use Rattle.sst_base.specs.declared.error.Error.{Error}
use Rattle.sst_base.specs.declared.error.Error.TheVariants.{BadHandle}
use Rattle.sst_base.specs.declared.table.block.block_type.BlockType.{BlockType}
use Rattle.sst_base.specs.declared.table.block.block_type.BlockType.TheVariants as types
use Rattle.sst_block_core.specs.Checks.{data_check, index_check}
use Rattle.sst_block_core.specs.Entries.{entries}
use Rattle.sst_block_core.specs.Handles.{Handle, handles, IndexPasses}
use Rattle.sst_block_core.specs.Stages.{Passes, items_in}
use Rattle.sst_block_core.specs.Trailer.{trailer_in}
use Rattle.sst_block_core.specs.Window.{first_match}
use Rattle.sstable_blocks.specs.Filter.{Filter, filter_at, may_contain, MayContain}
use Rattle.sstable_blocks.specs.Lookup.{handle_for}
use Rattle.sstable_blocks.specs.Opened.{range_of}
use Rattle.sstable_blocks.specs.declared.run.RunHandles.{RunHandles}

-- the two hashes that a run is read by
pub record Hashes : Type 0 where
  pub hash64 : List ℕ → ℕ
  pub hash128 : List ℕ → ℕ

abbrev pub hashes : (List ℕ → ℕ) → (List ℕ → ℕ) → Hashes
hashes hash64 hash128 = record { hash64 = hash64; hash128 = hash128 }

-- the bytes in the range of a handle
unfoldable pub range_at : List ℕ → HandleParts → Result (List ℕ) Error
range_at bytes h = if nat_le (h.offset + h.size) (length bytes) then Ok (take h.size (drop h.offset bytes)) else Err BadHandle

-- the payload of the frame of a type that is the bytes in the range of a handle
abbrev pub payload_at : Hashes → BlockType → List ℕ → HandleParts → Result (List ℕ) Error
payload_at c t bytes h = do
  found ← range_at bytes h
  payload_of_type c.hash128 t found

-- the entries of the data block in the range of a handle, and the handles of an index block
abbrev pub block_items_at : Hashes → List ℕ → HandleParts → Result (List Entry) Error
block_items_at c bytes h = do
  p ← payload_at c types.Data bytes h
  data_check c.hash64 p

abbrev pub handles_at : Hashes → List ℕ → HandleParts → Result (List Handle) Error
handles_at c bytes h = do
  p ← payload_at c types.Index bytes h
  index_check p

-- what a filter's payload says of a hash
abbrev pub filter_answer : List ℕ → ℕ → Result Bool Error
filter_answer p hash = do
  f ← filter_at p
  Ok (may_contain f hash)

-- can the run have the key? without a filter it can
abbrev pub filter_says : Hashes → List ℕ → Option HandleParts → List ℕ → Result Bool Error
filter_says c bytes None needle = Ok true
filter_says c bytes (Some h) needle = do
  p ← payload_at c types.Filter bytes h
  filter_answer p (c.hash64 needle)

-- the first match in the block of a handle, if there is one
abbrev pub read_block : Hashes → List ℕ → Option Handle → List ℕ → ℕ → Result (Option Entry) Error
read_block c bytes None needle seqno = Ok None
read_block c bytes (Some h) needle seqno = do
  p ← payload_at c types.Data bytes (range_of h)
  items ← data_check c.hash64 p
  Ok (first_match entries needle seqno items)

-- the first match by the index
abbrev pub read_blocks : Hashes → List ℕ → HandleParts → List ℕ → ℕ → Result (Option Entry) Error
read_blocks c bytes h needle seqno = do
  p ← payload_at c types.Index bytes h
  hs ← index_check p
  read_block c bytes (handle_for handles needle seqno hs) needle seqno

-- the first match by filter and index
unfoldable pub read_checked : Hashes → List ℕ → RunHandles → List ℕ → ℕ → Result (Option Entry) Error
read_checked c bytes h needle seqno = do
  may ← filter_says c bytes h.filter needle
  if may then read_blocks c bytes h.index needle seqno else Ok None

-- the range of a handle is the frame of this type and this payload
pub record IsFramedAt (c : Hashes) (t : BlockType) (bytes : List ℕ) (h : HandleParts) (p : List ℕ) : Type 0 where
  pub inside : h.offset + h.size ≤ length bytes
  pub whole : take h.size (drop h.offset bytes) ≡ frame c.hash128 t p

-- a filter, if there is one, does not have the bits of all probes of the needle's hash
abbrev pub FilterDenies : Hashes → List ℕ → Option HandleParts → List ℕ → Type 0
FilterDenies c bytes None needle = ⊥
FilterDenies c bytes (Some h) needle = (p : List ℕ) × (f : Filter) × IsFramedAt c types.Filter bytes h p × (filter_at p ≡ Ok f) × (MayContain f (c.hash64 needle) → ⊥)

-- or it has
abbrev pub FilterAllows : Hashes → List ℕ → Option HandleParts → List ℕ → Type 0
FilterAllows c bytes None needle = Unit {0}
FilterAllows c bytes (Some h) needle = (p : List ℕ) × (f : Filter) × IsFramedAt c types.Filter bytes h p × (filter_at p ≡ Ok f) × MayContain f (c.hash64 needle)

-- what a result by the handle of a data block means: none without a handle, else the first match of a block that passes
-- its check
abbrev pub BlockMeans : Hashes → List ℕ → Option Handle → List ℕ → ℕ → Option Entry → Type 0
BlockMeans c bytes None needle seqno answer = answer ≡ None
BlockMeans c bytes (Some h) needle seqno answer =
    (p : List ℕ) × IsFramedAt c types.Data bytes (range_of h) p × Passes entries c.hash64 p × (answer ≡ first_match entries needle seqno (items_in entries p))

-- what a result by the index means: its block passes the check, and the result is by the handle at which the seek stops
abbrev pub IndexMeans : Hashes → List ℕ → HandleParts → List ℕ → ℕ → Option Entry → Type 0
IndexMeans c bytes h needle seqno answer =
    (p : List ℕ) × IsFramedAt c types.Index bytes h p × IndexPasses (trailer_in p).interval p
    × BlockMeans c bytes (handle_for handles needle seqno (items_in handles p)) needle seqno answer

-- what a result on any bytes means: the filter rules the needle out and there is none, or it allows it and the result
-- is by the index
abbrev pub AnswerMeans : Hashes → List ℕ → RunHandles → List ℕ → ℕ → Option Entry → Type 0
AnswerMeans c bytes h needle seqno answer =
    (FilterDenies c bytes h.filter needle × (answer ≡ None)) ⊎ (FilterAllows c bytes h.filter needle × IndexMeans c bytes h.index needle seqno answer)
