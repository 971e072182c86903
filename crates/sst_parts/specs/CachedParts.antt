-- Reads of parted tables through a cache of open parts and one of their blocks.
use Rattle.std.specs.Prelude.{◌≡◌, ◌⊎◌, ℕ, ◌+◌, List, slice_get, Option, Some, None, IfSome, IsSomeAnd, Result, Ok, IsErr}
use Rattle.sst_parts.specs.CachedBlocks.{Blocks, IsAdded, ReadsBlock, block_frames, block_of_run}
use Rattle.sst_parts.specs.Caches.{CacheParts, Keeps, Kept, kept_at, looked_up, place_at}
use Rattle.sst_parts.specs.Parts.{PartedParts, places_in}
use Rattle.sst_parts.specs.declared.part_cache.Numbers.{Numbers}
use Rattle.sstable_blocks.specs.Prelude.{DataBlockParts, Handle, HandleParts, handles}
use Rattle.sstable_blocks.specs.Lookup.{handle_for}
use Rattle.sstable_blocks.specs.Opened.{range_of}
use Rattle.sstable_blocks.specs.Results.{Error}
use Rattle.sstable_blocks.specs.RunPlaces.{IsInside, bytes_at}
use Rattle.sstable_blocks.specs.RunReading.{Hashes}
use Rattle.sstable_blocks.specs.Tables.{IsOpenedOf, KeptParts}
use Rattle.sstable_blocks.specs.declared.run.place.RunPlace.TheVariants.{Part}
use Rattle.std.specs.Option.{option_map}

-- the part in a range was opened: its footer has these handles, and this is kept of its run, if the bytes are known
pub record IsOpenIn (c : Hashes) (o : Option (List ℕ)) (g : HandleParts) (r : KeptParts) : Type 0 where
  pub inside : IsInside g o
  pub places : IfSome o (λ all. places_in all g ≡ Ok r.handles)
  pub opened : IsOpenedOf c (bytes_at (Part g) o) r

-- the bytes of the frames of a filter, if there is one
abbrev pub filter_bytes : Option HandleParts → ℕ
filter_bytes None = 0
filter_bytes (Some h) = h.size

-- the bytes of the frames that are kept of an open part
abbrev pub open_bytes : KeptParts → ℕ
open_bytes r = r.handles.index.size + filter_bytes r.handles.filter

-- a cache of open parts
abbrev pub OpenParts : Type 0
OpenParts = CacheParts KeptParts

-- how many frames a read asks for at most of a part of which this is kept: one, where its block is not, else none; of one
-- that is not kept those of its footer, its filter, its index and one block
abbrev pub frames_of_part : (List ℕ → ℕ) → List (Kept DataBlockParts) → ℕ → HandleParts → Option KeptParts → List ℕ → ℕ → ℕ
frames_of_part hash64 blocks number g (Some r) needle seqno = block_frames blocks number (block_of_run hash64 (Part g) r needle seqno)
frames_of_part hash64 blocks number g None needle seqno = 4

-- the same of the part in a range, if there is one
abbrev pub cached_frames : (List ℕ → ℕ) → List (Kept KeptParts) → List (Kept DataBlockParts) → Numbers → Option HandleParts → List ℕ → ℕ → ℕ
cached_frames hash64 parts blocks ns None needle seqno = 0
cached_frames hash64 parts blocks ns (Some g) needle seqno = frames_of_part hash64 blocks ns.of_blocks g (kept_at parts (place_at ns.of_parts g)) needle seqno

-- what two caches keep
pub record BothCaches : Type 0 where
  pub parts : OpenParts
  pub blocks : Blocks

-- two caches gave a table with this source these numbers
abbrev pub AreAdded : {S : Type 0} → (S → Option (List ℕ)) → OpenParts → Blocks → Numbers → S → Type 0
AreAdded bytes parts blocks ns source = IsAdded bytes parts ns.of_parts source × IsAdded bytes blocks ns.of_blocks source

-- after a read of the part in a range, which was not kept: it was opened and kept, and its block was read; where it could not
-- be opened, nothing changed
abbrev pub ReadsNewPart : {Y : Type 0} → Hashes → BothCaches → Numbers → HandleParts → List ℕ → ℕ → Result Y Error → BothCaches → Type 0
ReadsNewPart c old ns g needle seqno result new =
    ((r : KeptParts) × IsSomeAnd (slice_get old.parts.tables ns.of_parts) (λ o. IsOpenIn c o g r) × Keeps open_bytes old.parts (place_at ns.of_parts g) r new.parts × ReadsBlock c old.blocks ns.of_blocks (block_of_run c.hash64 (Part g) r needle seqno) result new.blocks)
    ⊎ (IsErr result × (new.parts ≡ old.parts) × (new.blocks ≡ old.blocks))

-- after a read of the part in a range, of which this was kept: it was looked up, and its block was read, or else it was
-- opened first
abbrev pub ReadsPart : {Y : Type 0} → Hashes → BothCaches → Numbers → HandleParts → Option KeptParts → List ℕ → ℕ → Result Y Error → BothCaches → Type 0
ReadsPart c old ns g (Some r) needle seqno result new =
    (new.parts ≡ looked_up old.parts (place_at ns.of_parts g) (Some r)) × ReadsBlock c old.blocks ns.of_blocks (block_of_run c.hash64 (Part g) r needle seqno) result new.blocks
ReadsPart c old ns g None needle seqno result new = ReadsNewPart c (record old { parts = looked_up old.parts (place_at ns.of_parts g) None }) ns g needle seqno result new

-- the same by the part that can hold a key, if there is one
abbrev pub ReadsPartIn : {Y : Type 0} → Hashes → BothCaches → Numbers → Option HandleParts → List ℕ → ℕ → Result Y Error → BothCaches → Type 0
ReadsPartIn c old ns None needle seqno result new = (new.parts ≡ old.parts) × (new.blocks ≡ old.blocks)
ReadsPartIn c old ns (Some g) needle seqno result new = ReadsPart c old ns g (kept_at old.parts.kept (place_at ns.of_parts g)) needle seqno result new

-- the range of the part that can hold a key below a sequence number, if there is one
abbrev pub part_for : List Handle → List ℕ → ℕ → Option HandleParts
part_for tops needle seqno = option_map range_of (handle_for handles needle seqno tops)

-- the numbers of both caches stand for the same tables
pub record SameTables (old new : BothCaches) : Type 0 where
  pub parts : new.parts.tables ≡ old.parts.tables
  pub blocks : new.blocks.tables ≡ old.blocks.tables

-- a read of a parted table through two caches, of the part in a range, if there is one, leaves these caches
pub record LeavesCaches {Y : Type 0} (c : Hashes) (old : BothCaches) (ns : Numbers) (g : Option HandleParts) (needle : List ℕ) (seqno : ℕ) (result : Result Y Error) (new : BothCaches) : Type 0 where
  pub read : ReadsPartIn c old ns g needle seqno result new
  pub tables : SameTables old new

-- what contracts see of a parted table that is read through caches: the table, and its numbers there
pub record CachedPartedParts (S : Type 0) : Type 0 where
  pub table : PartedParts S
  pub numbers : Numbers
