-- Reads of runs through a cache of their blocks.
use Rattle.std.specs.Prelude.{◌≡◌, ◌⊎◌, ℕ, ◌+◌, List, length, slice_get, Option, Some, None, IfSome, Result, Ok, Err, IsErr}
use Rattle.sst_parts.specs.Caches.{CacheParts, Kept, KeepsNew, kept_at, looked_up, place_at}
use Rattle.sstable_blocks.specs.Prelude.{Counted, CountsBetween, DataBlockParts, Entry, HandleParts, digits, entries, first_match, head_count, items_in}
use Rattle.sstable_blocks.specs.ReadCosts.{CountsGrow, interval_in}
use Rattle.sstable_blocks.specs.Results.{◌>>=◌, Error}
use Rattle.sstable_blocks.specs.Opened.{payload_in}
use Rattle.sstable_blocks.specs.RunPlaces.{frame_of}
use Rattle.sstable_blocks.specs.RunReading.{Hashes, block_items_at}
use Rattle.sstable_blocks.specs.Sources.{GivesOr}
use Rattle.sstable_blocks.specs.Tables.{IsBlockIn, KeptParts, TableParts, found_block}
use Rattle.sstable_blocks.specs.declared.run.place.RunPlace.{RunPlace}
use Rattle.sstable_blocks.specs.declared.run.place.RunPlace.TheVariants.{Whole}

-- a block is the one in a range of these bytes, if they are known
pub record IsBlockOf (c : Hashes) (o : Option (List ℕ)) (h : HandleParts) (b : DataBlockParts) : Type 0 where
  pub read : IfSome o (λ all. block_items_at c all h ≡ Ok b.items)
  pub place : IfSome o (λ all. IsBlockIn all h b.items b.interval)

-- the bytes of the payload of a block
abbrev pub block_bytes : DataBlockParts → ℕ
block_bytes b = length b.payload

-- a cache of blocks
abbrev pub Blocks : Type 0
Blocks = CacheParts DataBlockParts

-- the first match in the block in a range
abbrev pub first_at : Hashes → List ℕ → HandleParts → List ℕ → ℕ → Result (Option Entry) Error
first_at c bytes h needle seqno = do
  items ← block_items_at c bytes h
  Ok (first_match entries needle seqno items)

-- how many heads the block in a range has, and the entries of an interval of it, and one more
abbrev pub heads_in : List ℕ → HandleParts → ℕ
heads_in bytes h = head_count (interval_in bytes h) (length (items_in entries (payload_in bytes h)))

abbrev pub entries_in : List ℕ → HandleParts → ℕ
entries_in bytes h = interval_in bytes h + 1

-- The result of a read is the first match of the block in a range, if the bytes are known, unless an allocation or the
-- source failed, and it examines at most what a point read of that block does.
pub record IsReadOf (c : Hashes) (o : Option (List ℕ)) (h : HandleParts) (needle : List ℕ) (seqno : ℕ) (failed reliable : Type 0) (result : Result (Option Entry) Error) (old new : Counted) : Type 0 where
  pub grows : CountsGrow old new
  pub exact : IfSome o (λ all. GivesOr failed reliable (λ x. x) result (first_at c all h needle seqno))
  pub counts : IfSome o (λ all. CountsBetween old new (0, 0) (digits (heads_in all h), entries_in all h))

-- how many frames are asked for where this is kept
abbrev pub frames_for : {V : Type 0} → Option V → ℕ
frames_for (Some b) = 0
frames_for None = 1

-- how many frames a read asks for of the block in a range of a table's source, if there is one
abbrev pub block_frames : List (Kept DataBlockParts) → ℕ → Option HandleParts → ℕ
block_frames kept number None = 0
block_frames kept number (Some h) = frames_for (kept_at kept (place_at number h))

-- after a read of a place where this was kept: it was looked up, or else what is there was read and kept, unless it was
-- refused
abbrev pub ReadsPlace : {Y : Type 0} → Hashes → Blocks → ℕ → HandleParts → Option DataBlockParts → Result Y Error → Blocks → Type 0
ReadsPlace c old number h (Some b) result new = new ≡ looked_up old (place_at number h) (Some b)
ReadsPlace c old number h None result new =
    KeepsNew (IsBlockOf c) block_bytes (looked_up old (place_at number h) None) (place_at number h) new
    ⊎ (IsErr result × (new ≡ looked_up old (place_at number h) None))

-- after a read of the block in a range, if there is one
abbrev pub ReadsBlock : {Y : Type 0} → Hashes → Blocks → ℕ → Option HandleParts → Result Y Error → Blocks → Type 0
ReadsBlock c old number None result new = new ≡ old
ReadsBlock c old number (Some h) result new = ReadsPlace c old number h (kept_at old.kept (place_at number h)) result new

-- the range in the source of a block of a run, if there is one and it is inside the run
abbrev pub range_at_place : RunPlace → Option HandleParts → Option HandleParts
range_at_place p None = None
range_at_place p (Some h) = frame_of p h

-- what was found, where the filter can be read
abbrev pub found_in : Result (Option HandleParts) Error → Option HandleParts
found_in (Ok x) = x
found_in (Err e) = None

-- the range in the source of the block of a run that can hold a key below a sequence number, if there is one
abbrev pub block_of_run : (List ℕ → ℕ) → RunPlace → KeptParts → List ℕ → ℕ → Option HandleParts
block_of_run hash64 p r needle seqno = range_at_place p (found_in (found_block hash64 r.filter r.index needle seqno))

-- what contracts see of a table that is read through a cache: the table, and its number there
pub record CachedTableParts (S : Type 0) : Type 0 where
  pub table : TableParts S
  pub number : ℕ

-- the range of the block of a table
abbrev pub block_of_table : {S : Type 0} → (List ℕ → ℕ) → TableParts S → List ℕ → ℕ → Option HandleParts
block_of_table hash64 t needle seqno = range_at_place Whole (found_in (found_block hash64 t.filter t.index needle seqno))

-- a cache gave a table with this source its number
abbrev pub IsAdded : {V S : Type 0} → (S → Option (List ℕ)) → CacheParts V → ℕ → S → Type 0
IsAdded bytes c number source = slice_get c.tables number ≡ Some (bytes source)

-- a read of a table through a cache, of the block in a range, if there is one, leaves this cache, whose numbers stand for
-- the same tables
pub record LeavesBlocks {Y : Type 0} (c : Hashes) (old : Blocks) (number : ℕ) (h : Option HandleParts) (result : Result Y Error) (new : Blocks) : Type 0 where
  pub read : ReadsBlock c old number h result new
  pub tables : new.tables ≡ old.tables
