-- Reads of many keys of a table, each block read once.
use Rattle.std.specs.Prelude.{◌≡◌, ℕ, ◌+◌, ◌≤◌, ◌==◌, if◌then◌else◌, List, [], ◌∷◌, map, slice_get, Option, Some, None, IfSome, Result, Ok, Err, IfOk, Bool, true, false}
use Rattle.std.specs.Option.{option_map}
use Rattle.sst_base.specs.Entry.{Entry}
use Rattle.sst_block_core.specs.DataBlock.{DataBlockParts}
use Rattle.sst_block_core.specs.Entries.{entries}
use Rattle.sst_block_core.specs.Window.{first_match}
use Rattle.sst_block_core.specs.Handles.{Handle}
use Rattle.sst_base.specs.Header.{◌>>=◌}
use Rattle.sst_base.specs.declared.error.Error.{Error}
use Rattle.sstable_blocks.specs.Blocks.{joined}
use Rattle.sstable_blocks.specs.Opened.{range_of}
use Rattle.sstable_blocks.specs.RunReading.{Hashes, block_items_at, read_block, read_checked}
use Rattle.sstable_blocks.specs.RunPlaces.{IsPlaced, bytes_at, run_in}
use Rattle.sstable_blocks.specs.Sound.{ForSound}
use Rattle.sstable_blocks.specs.Tables.{IsOpenedOf, KeptParts, located}
use Rattle.sstable_blocks.specs.declared.run.RunHandles.{RunHandles}
use Rattle.sstable_blocks.specs.declared.run.many.Needle.{Needle}
use Rattle.sstable_blocks.specs.declared.run.place.RunPlace.{RunPlace}

-- that index, where the filter can be read
abbrev pub place_of : Result (Option ℕ) Error → Option ℕ
place_of (Ok place) = place
place_of (Err e) = None

-- the first match in the block at an index, if there is one
abbrev pub read_at : Hashes → List ℕ → List Handle → Option ℕ → List ℕ → ℕ → Result (Option Entry) Error
read_at c bytes hs None needle seqno = Ok None
read_at c bytes hs (Some i) needle seqno = read_block c bytes (slice_get hs i) needle seqno

-- entries are those of the block of the handle at an index, if the bytes are known
abbrev pub IsBlockAt : Hashes → Option (List ℕ) → List Handle → ℕ → List Entry → Type 0
IsBlockAt c bytes hs i items = IfSome bytes (λ all. (h : Handle) → slice_get hs i ≡ Some h → block_items_at c all (range_of h) ≡ Ok items)

-- what is kept of the block that was read last: its index, and the block
abbrev pub IsLastBlock : Hashes → Option (List ℕ) → List Handle → Option (ℕ × DataBlockParts) → Type 0
IsLastBlock c bytes hs None = Unit {0}
IsLastBlock c bytes hs (Some b) = IsBlockAt c bytes hs b.0 b.1.items

-- the block at this index is the one that was read last
abbrev pub IsOpenAt : Hashes → Option (List ℕ) → List Handle → ℕ → Option (ℕ × DataBlockParts) → Type 0
IsOpenAt c bytes hs i None = ⊥
IsOpenAt c bytes hs i (Some b) = (b.0 ≡ i) × IsBlockAt c bytes hs i b.1.items

-- the index of the block that was read last
abbrev pub last_index : Option (ℕ × DataBlockParts) → Option ℕ
last_index last = option_map (λ b. b.0) last

-- how many frames are asked for to have the block at an index, where that at another one was read last
abbrev pub block_frames : Option ℕ → Option ℕ → ℕ
block_frames last None = 0
block_frames None (Some i) = 1
block_frames (Some j) (Some i) = if j == i then 0 else 1

-- the index of the block that was read last, after a read by an index
abbrev pub index_after : Option ℕ → Option ℕ → Option ℕ
index_after last None = last
index_after last (Some i) = Some i

-- how many of some indexes differ from the one before
abbrev pub many_frames : Option ℕ → List (Option ℕ) → ℕ
many_frames last [] = 0
many_frames last (p ∷ ps) = block_frames last p + many_frames (index_after last p) ps

-- the results of a read of each needle, or the first error
abbrev pub read_each : {N : Type 0} → (N → Result (Option Entry) Error) → List N → Result (List (Option Entry)) Error
read_each read [] = Ok []
read_each read (n ∷ ns) = do
  x ← read n
  xs ← read_each read ns
  Ok (x ∷ xs)

-- the indexes of the needles for which there is a block
abbrev pub indexes : List (Option ℕ) → List ℕ
indexes [] = []
indexes (None ∷ ps) = indexes ps
indexes (Some i ∷ ps) = i ∷ indexes ps

-- no index is below the one before
abbrev pub IsRising : List ℕ → Type 0
IsRising [] = Unit {0}
IsRising (x ∷ []) = Unit {0}
IsRising (x ∷ y ∷ ys) = (x ≤ y) × IsRising (y ∷ ys)

-- is a number in a list?
abbrev pub has : ℕ → List ℕ → Bool
has x [] = false
has x (y ∷ ys) = if y == x then true else has x ys

-- how many different numbers a list has: each is counted where it is for the last time
abbrev pub different : List ℕ → ℕ
different [] = 0
different (x ∷ xs) = (if has x xs then 0 else 1) + different xs

-- what contracts see of a reader of a run: what was kept when the run was opened, its place in the source, and the block
-- that was read last
pub record RunReaderParts : Type 0 where
  pub run : KeptParts
  pub place : RunPlace
  pub last : Option (ℕ × DataBlockParts)

-- a reader is of a source with these bytes, if they are known
pub record IsReaderOf (c : Hashes) (r : RunReaderParts) (bytes : Option (List ℕ)) : Type 0 where
  pub placed_in : IsPlaced r.place bytes
  pub opened : IsOpenedOf c (bytes_at r.place bytes) r.run
  pub last_is : IsLastBlock c (bytes_at r.place bytes) r.run.index r.last

-- the index of the block that can hold a needle, by what was kept
abbrev pub needle_place : (List ℕ → ℕ) → KeptParts → Needle → Option ℕ
needle_place hash64 r n = place_of (located hash64 r.filter r.index n.key.now n.seqno)

-- the most frames that a reader asks for to read needles
abbrev pub reader_frames : (List ℕ → ℕ) → RunReaderParts → List Needle → ℕ
reader_frames hash64 r ns = many_frames (last_index r.last) (map (needle_place hash64 r.run) ns)

-- what a reader gives for a key below a sequence number, by the bytes of the source
abbrev pub run_answer : Hashes → RunReaderParts → List ℕ → List ℕ → ℕ → Result (Option Entry) Error
run_answer c r all key seqno = read_checked c (run_in r.place all) r.run.handles key seqno

-- of bytes that are a sound run, a result, seen by `view`, is the first match of each needle
abbrev pub FindsAll : {X : Type 0} → Hashes → RunHandles → List Needle → (X → List (Option Entry)) → Result X Error → List ℕ → Type 0
FindsAll c h needles view result bytes = ForSound c bytes h (λ blocks. IfOk result (λ found. view found ≡ map (λ n. first_match entries n.key.now n.seqno (joined blocks)) needles))
