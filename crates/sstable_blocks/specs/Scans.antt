-- Scans of a table: its entries within a range of keys, from both ends, a block at a time.
use Rattle.std.specs.Prelude.{◌<◌, IfErr, IfOk, IsOkUnless, slice_get, ◌≡◌, ◌≢◌, ◌⊎◌, ℕ, ◌+◌, ◌*◌, ◌^◌, ◌&&◌, min, not, Bool, true, false, List, [], ◌∷◌, ◌++◌, length, map, filter, count_by, Option, Some, None, IfSome, Result, Ok, Err}
use Rattle.std.specs.Cmp.Lexicographic.{slice_cmp}
use Rattle.std.specs.Ordering.{nat_cmp, is_le, is_lt}
use Rattle.std.specs.Range.Bound.{bound_map}
use Rattle.std.specs.declared.ops.Bound.{Bound}
use Rattle.std.specs.declared.ops.Bound.TheVariants.{Included, Excluded, Unbounded}
use Rattle.sst_base.specs.Counted.{Counted, found_item}
use Rattle.sst_base.specs.Entry.{Entry, plain}
use Rattle.sst_base.specs.declared.error.Error.{Error}
use Rattle.sst_base.specs.declared.error.Error.TheVariants.{BadHandle, Io, Memory}
use Rattle.std.specs.Iterator.{YieldsFirst, YieldsLast}
use Rattle.std.specs.List.{AllByRecursion}
use Rattle.sst_block_core.specs.Entries.{entries}
use Rattle.sst_block_core.specs.Candidates.{scan_cost}
use Rattle.sst_block_core.specs.Intervals.{digits}
use Rattle.sst_block_core.specs.Pointers.{head_count}
use Rattle.sst_block_core.specs.Scan.{Scan}
use Rattle.sst_block_core.specs.Stages.{items_in}
use Rattle.sst_block_core.specs.Window.{items_left}
use Rattle.sst_block_core.specs.Handles.{Handle}
use Rattle.sstable_blocks.specs.BlockReading.{items_of}
use Rattle.sstable_blocks.specs.Opened.{range_of, index_in, payload_in}
use Rattle.sstable_blocks.specs.ReadCosts.{interval_in}
use Rattle.sstable_blocks.specs.RunReading.{Hashes, block_items_at, handles_at}
use Rattle.sstable_blocks.specs.Blocks.{joined}
use Rattle.sstable_blocks.specs.Sound.{ForSound, RunParts}
use Rattle.sstable_blocks.specs.Sources.{IsSourceFailure, KeepsSource}
use Rattle.sstable_blocks.specs.Tables.{TableParts}
use Rattle.sstable_blocks.specs.Tallies.{Tally, Adds, CountsFirst, CountsLast, IsUpTo, least_taken, most_taken, search_cost}
use Rattle.sstable_blocks.specs.declared.run.RunHandles.{RunHandles}
use Rattle.sst_base.specs.Header.{◌>>=◌}
use Rattle.std.specs.Result.{result_err}

-- a range of user keys, by its two bounds
pub record KeyRange : Type 0 where
  pub from : Bound (List ℕ)
  pub to : Bound (List ℕ)

-- the range between two bounds, whose keys are seen by `key`
abbrev pub range_by : {K : Type 0} → (K → List ℕ) → Bound K → Bound K → KeyRange
range_by key from to = record { from = bound_map key from; to = bound_map key to }

-- does a key sort before the start of a range?
abbrev pub is_before : Bound (List ℕ) → List ℕ → Bool
is_before (Included start) key = is_lt (slice_cmp nat_cmp key start)
is_before (Excluded start) key = is_le (slice_cmp nat_cmp key start)
is_before Unbounded key = false

-- does a key not sort after the end of a range?
abbrev pub is_up_to : Bound (List ℕ) → List ℕ → Bool
is_up_to (Included end) key = is_le (slice_cmp nat_cmp key end)
is_up_to (Excluded end) key = is_lt (slice_cmp nat_cmp key end)
is_up_to Unbounded key = true

-- is a key in a range?
abbrev pub in_range : KeyRange → List ℕ → Bool
in_range r key = not (is_before r.from key) && is_up_to r.to key

-- the entries whose keys are in a range
unfoldable pub within : KeyRange → List Entry → List Entry
within r items = filter (λ x. in_range r x.key.user_key) items

-- the index of the first block that can have a key in a range: those before it end before the start
abbrev pub first_block : KeyRange → List Handle → ℕ
first_block r hs = count_by (λ h. is_before r.from h.end_key) hs

-- how many blocks end up to the end of a range
abbrev pub blocks_up_to : KeyRange → List Handle → ℕ
blocks_up_to r hs = count_by (λ h. is_up_to r.to h.end_key) hs

-- the index after the last block that can have a key in a range: the one after those is included
abbrev pub end_block : KeyRange → List Handle → ℕ
end_block r hs = min (length hs) (blocks_up_to r hs + 1)

-- the handles of the blocks that can have a key in a range, by the index alone
unfoldable pub handles_within : KeyRange → List Handle → List Handle
handles_within r hs = items_left (record { list = hs; lo = first_block r hs; hi = end_block r hs })

-- the most heads and the most handles that are examined to find a key among so many handles of an index, by its interval
abbrev pub index_cost : ℕ → ℕ → ℕ × ℕ
index_cost interval count = (digits (head_count interval count), scan_cost interval)

-- what a scan reads: entries, or the error that a block is refused with
abbrev pub Read : Type 0
Read = Result Entry Error

-- the entries of the block of a handle that are in a range, or the error that the block is refused with
abbrev pub block_within : Hashes → List ℕ → KeyRange → Handle → Result (List Entry) Error
block_within c bytes r h = do
  items ← block_items_at c bytes (range_of h)
  Ok (within r items)

-- what is read of a block: each of its entries, or its error
abbrev pub reads_of : {X : Type 0} → Result (List X) Error → List (Result X Error)
reads_of (Ok items) = map Ok items
reads_of (Err e) = Err e ∷ []

-- what is read of the blocks of handles, in order
abbrev pub blocks_read : Hashes → List ℕ → KeyRange → List Handle → List Read
blocks_read c bytes r [] = []
blocks_read c bytes r (h ∷ hs) = reads_of (block_within c bytes r h) ++ blocks_read c bytes r hs

-- what contracts see of a scan: its table and its range; the entries left of the block that was opened from the front,
-- the handles of the blocks that were not opened, the entries left of the block opened from the back; the error that
-- ended it, if one did; and what was counted since it was made
pub record ScanParts (S : Type 0) : Type 0 where
  pub table : TableParts S
  pub range : KeyRange
  pub front : List Entry
  pub handles : List Handle
  pub back : List Entry
  pub ended : Option Error
  pub counted : Tally

-- entries, those of the blocks of handles, and entries
abbrev pub reads_among : Hashes → List ℕ → KeyRange → List Entry → List Handle → List Entry → List Read
reads_among c bytes r front hs back = map Ok front ++ (blocks_read c bytes r hs ++ map Ok back)

-- what is left to read
abbrev pub reads_left : {S : Type 0} → Hashes → List ℕ → ScanParts S → List Read
reads_left c bytes s = reads_among c bytes s.range s.front s.handles s.back

-- at most how many entries are left in entries, in a number of blocks, and in entries: a block has fewer than 2^32
abbrev pub most_among : List Entry → ℕ → List Entry → ℕ
most_among front blocks back = length front + 2 ^ 32 * blocks + length back

-- at most how many entries a scan has left
abbrev pub most_left : {S : Type 0} → ScanParts S → ℕ
most_left s = most_among s.front (length s.handles) s.back

-- a list begins with this, or ends with it
abbrev pub StartsWith : Read → List Read → Type 0
StartsWith x reads = (others : List Read) × (reads ≡ x ∷ others)

abbrev pub EndsWith : Read → List Read → Type 0
EndsWith x reads = (others : List Read) × (reads ≡ others ++ x ∷ [])

-- an error is the first of what was left, or a failed allocation, or a failure of the source
abbrev pub FailsFirst : Type 0 → Type 0 → List Read → Error → Type 0
FailsFirst failed reliable old e = e ≢ Memory → IsSourceFailure failed reliable (StartsWith (Err BadHandle) old) e ⊎ StartsWith (Err e) old

-- or the last
abbrev pub FailsLast : Type 0 → Type 0 → List Read → Error → Type 0
FailsLast failed reliable old e = e ≢ Memory → IsSourceFailure failed reliable (EndsWith (Err BadHandle) old) e ⊎ EndsWith (Err e) old

-- a step from the front gives the first of what was left, which is then gone
abbrev pub GivesFirst : Type 0 → Type 0 → List Read → List Read → Result (Option Entry) Error → Type 0
GivesFirst failed reliable old new (Ok (Some x)) = old ≡ Ok x ∷ new
GivesFirst failed reliable old new (Ok None) = (old ≡ []) × (new ≡ [])
GivesFirst failed reliable old new (Err e) = FailsFirst failed reliable old e

-- a step from the back gives the last
abbrev pub GivesLast : Type 0 → Type 0 → List Read → List Read → Result (Option Entry) Error → Type 0
GivesLast failed reliable old new (Ok (Some x)) = old ≡ new ++ Ok x ∷ []
GivesLast failed reliable old new (Ok None) = (old ≡ []) × (new ≡ [])
GivesLast failed reliable old new (Err e) = FailsLast failed reliable old e

-- a step of a scan that has ended returns its error again, and a step that fails ends the scan
pub record EndsBy {X : Type 0} (old new : Option Error) (result : Result X Error) : Type 0 where
  pub repeated : IfSome old (λ e. result ≡ Err e)
  pub ended : new ≡ result_err result

-- how many entries of a block have keys before the start of a range, and how many have none after its end
abbrev pub first_entry : KeyRange → List Entry → ℕ
first_entry r items = count_by (λ x. is_before r.from x.key.user_key) items

abbrev pub end_entry : KeyRange → List Entry → ℕ
end_entry r items = count_by (λ x. is_up_to r.to x.key.user_key) items

-- all keys of entries are in a range
abbrev pub AllWithin : KeyRange → List Entry → Type 0
AllWithin r xs = AllByRecursion (λ x. in_range r x.key.user_key ≡ true) xs

-- the entries left of a block that was opened, if one was
abbrev pub left_in : Option (Scan Entry) → List Entry
left_in = items_of (λ (s : Scan Entry). items_left s.window)

-- the handles between two indexes
abbrev pub between : List Handle → ℕ → ℕ → List Handle
between hs lo hi = items_left (record { list = hs; lo = lo; hi = hi })

-- a scan of the same table, but for its source, and of the same range
pub record IsSameScan {S : Type 0} (old new : ScanParts S) : Type 0 where
  pub handles : new.table.handles ≡ old.table.handles
  pub filter : new.table.filter ≡ old.table.filter
  pub index : new.table.index ≡ old.table.index
  pub interval : new.table.interval ≡ old.table.interval
  pub range : new.range ≡ old.range

-- the entries of what is read
abbrev pub entries_read : List Read → List Entry
entries_read [] = []
entries_read (Ok x ∷ reads) = x ∷ entries_read reads
entries_read (Err e ∷ reads) = entries_read reads

-- the block of a handle is read as the entries of the payload there
abbrev pub IsBlockRead : Hashes → List ℕ → Handle → Type 0
IsBlockRead c bytes h = block_items_at c bytes (range_of h) ≡ Ok (items_in entries (payload_in bytes (range_of h)))

-- the index of a run is read, and the block of each of its handles
pub record IsReadRun (c : Hashes) (bytes : List ℕ) (h : RunHandles) : Type 0 where
  pub index : handles_at c bytes h.index ≡ Ok (index_in bytes h.index)
  pub blocks : AllByRecursion (IsBlockRead c bytes) (index_in bytes h.index)

-- what contracts see of what opens the blocks of a run, each cut by a range; and what was counted of those that are no
-- longer open
pub record CutParts (R : Type 0) : Type 0 where
  pub run : R
  pub range : KeyRange
  pub steps : Counted

-- the entries in a range of the blocks of handles, as they are in bytes
abbrev pub entries_within : List ℕ → KeyRange → List Handle → List Entry
entries_within bytes r [] = []
entries_within bytes r (h ∷ hs) = within r (items_in entries (payload_in bytes (range_of h))) ++ entries_within bytes r hs

-- entries, those in a range of the blocks of handles, and entries
abbrev pub entries_among : List ℕ → KeyRange → List Entry → List Handle → List Entry → List Entry
entries_among bytes r front hs back = front ++ (entries_within bytes r hs ++ back)

abbrev pub left_by : RunParts → KeyRange → Option (Scan Entry) → ℕ → ℕ → Option (Scan Entry) → List Entry
left_by run r front lo hi back = entries_among run.bytes r (left_in front) (between (index_in run.bytes run.handles.index) lo hi) (left_in back)

-- what contracts see of a scan over borrowed bytes: the bytes and the handles, the range, and the entries left; the
-- handles of the blocks that were not opened, and what was counted since it was made
pub record RunScanParts : Type 0 where
  pub run : RunParts
  pub range : KeyRange
  pub left : List Entry
  pub handles : List Handle
  pub counted : Tally

-- what contracts see of a scan that makes the entries of a run: the same, and the error that ended it, if one did
pub record SharedScanParts : Type 0 where
  pub scan : RunScanParts
  pub ended : Option Error

-- the restart interval of a run's index
abbrev pub run_interval : RunParts → ℕ
run_interval run = interval_in run.bytes run.handles.index

-- a step from the front of a scan gives the first entry left, which is then gone
pub record ScansFirst (old : RunScanParts) (result : Option Entry) (new : RunScanParts) : Type 0 where
  pub run : new.run ≡ old.run
  pub range : new.range ≡ old.range
  pub first : YieldsFirst (λ xs. xs) old.left result new.left
  pub looked : Adds old.counted new.counted (found_item result)
  pub counts : CountsFirst old.run.bytes (run_interval old.run) old.counted old.handles new.counted new.handles (found_item result)

-- a step from the back gives the last
pub record ScansLast (old : RunScanParts) (result : Option Entry) (new : RunScanParts) : Type 0 where
  pub run : new.run ≡ old.run
  pub range : new.range ≡ old.range
  pub last : YieldsLast (λ xs. xs) old.left result new.left
  pub looked : Adds old.counted new.counted (found_item result)
  pub counts : CountsLast old.run.bytes (run_interval old.run) old.counted old.handles new.counted new.handles (found_item result)

-- What a step does to the source of a scan: its bytes stay the same, its failures are only added to, a reliable one stays
-- reliable; a frame is asked for each block that is opened, and an error is `Io` only where the source failed in that step.
pub record UsesScan {S X : Type 0} (bytes : S → Option (List ℕ)) (failures reads : S → ℕ) (is_reliable : S → Type 0) (old new : ScanParts S) (result : Result X Error) : Type 0 where
  pub source : KeepsSource bytes failures is_reliable old.table.source new.table.source
  pub asks : reads new.table.source + length new.handles ≡ reads old.table.source + length old.handles
  pub io : IfErr result (λ e. e ≡ Io → old.ended ≡ None → failures old.table.source < failures new.table.source)

-- where the bytes of the source are known, a step of a scan that no error ended gives the first of what was left
abbrev pub ReadsFirst : {S : Type 0} → Hashes → (S → Option (List ℕ)) → (S → ℕ) → (S → Type 0) → ScanParts S → ScanParts S → Result (Option Entry) Error → Type 0
ReadsFirst c bytes failures is_reliable old new result = IfSome (bytes old.table.source) (λ all. old.ended ≡ None
    → GivesFirst (failures old.table.source < failures new.table.source) (is_reliable old.table.source) (reads_left c all old) (reads_left c all new) result)

-- or the last
abbrev pub ReadsLast : {S : Type 0} → Hashes → (S → Option (List ℕ)) → (S → ℕ) → (S → Type 0) → ScanParts S → ScanParts S → Result (Option Entry) Error → Type 0
ReadsLast c bytes failures is_reliable old new result = IfSome (bytes old.table.source) (λ all. old.ended ≡ None
    → GivesLast (failures old.table.source < failures new.table.source) (is_reliable old.table.source) (reads_left c all old) (reads_left c all new) result)

-- a scan of bytes that are a sound run has its entries in the range left
abbrev pub ScansSound : {S : Type 0} → Hashes → RunHandles → ScanParts S → List ℕ → Type 0
ScansSound c h scan bytes = ForSound c bytes h (λ blocks. reads_left c bytes scan ≡ map Ok (within scan.range (map plain (joined blocks))))

-- what holds of the handle at an index, where bytes are known
abbrev pub AtHandle : Option (List ℕ) → List Handle → ℕ → (List ℕ → Handle → Type 0) → Type 0
AtHandle bytes index i holds = IfSome bytes (λ all. (h : Handle) → slice_get index i ≡ Some h → holds all h)

-- what holds of the handle at an index of a run's index
abbrev pub AtRunHandle : RunParts → ℕ → (Handle → Type 0) → Type 0
AtRunHandle run i holds = (h : Handle) → slice_get (index_in run.bytes run.handles.index) i ≡ Some h → holds h

-- the handles of a run's index between two indexes
abbrev pub run_between : RunParts → ℕ → ℕ → List Handle
run_between run lo hi = between (index_in run.bytes run.handles.index) lo hi

-- the most that a scan's start examines: what two searches in the index of its run do
abbrev pub run_search_cost : RunParts → Tally
run_search_cost run = search_cost (run_interval run) (length (index_in run.bytes run.handles.index))

-- a scan of a range of a sound run begins: the run's entries in the range are left, no block is opened, and what was
-- counted is at most what the search for the ends of the range examines
pub record BeginsScan (c : Hashes) (of : RunParts) (keys : KeyRange) (scan : RunScanParts) : Type 0 where
  pub run : scan.run ≡ of
  pub range : scan.range ≡ keys
  pub left : ForSound c of.bytes of.handles (λ blocks. scan.left ≡ within keys (map plain (joined blocks)))
  pub handles : scan.handles ≡ handles_within keys (index_in of.bytes of.handles.index)
  pub counts : IsUpTo scan.counted (run_search_cost of)

-- a scan of a range of a table begins: no block is read, and of known bytes that are a sound run the entries in the range
-- are left
pub record BeginsTableScan {S : Type 0} (c : Hashes) (bytes : S → Option (List ℕ)) (of : TableParts S) (keys : KeyRange) (scan : ScanParts S) : Type 0 where
  pub table : scan.table ≡ of
  pub range : scan.range ≡ keys
  pub handles : scan.handles ≡ handles_within keys of.index
  pub fresh : (scan.front ≡ []) × (scan.back ≡ []) × (scan.ended ≡ None)
  pub counts : IsUpTo scan.counted (search_cost of.interval (length of.index))
  pub sound : IfSome (bytes of.source) (ScansSound c of.handles scan)

-- a step from the front of a scan that makes entries gives the first entry left, which is then gone; where it is not made,
-- an allocation failed
pub record MakesFirst (old : RunScanParts) (result : Result (Option Entry) Error) (new : RunScanParts) : Type 0 where
  pub run : new.run ≡ old.run
  pub range : new.range ≡ old.range
  pub first : IfOk result (λ x. YieldsFirst (λ xs. xs) old.left x new.left)
  pub memory : IsOkUnless result Memory
  pub looked : Adds old.counted new.counted (least_taken result)
  pub counts : CountsFirst old.run.bytes (run_interval old.run) old.counted old.handles new.counted new.handles (most_taken result)

-- a step from the back gives the last
pub record MakesLast (old : RunScanParts) (result : Result (Option Entry) Error) (new : RunScanParts) : Type 0 where
  pub run : new.run ≡ old.run
  pub range : new.range ≡ old.range
  pub last : IfOk result (λ x. YieldsLast (λ xs. xs) old.left x new.left)
  pub memory : IsOkUnless result Memory
  pub looked : Adds old.counted new.counted (least_taken result)
  pub counts : CountsLast old.run.bytes (run_interval old.run) old.counted old.handles new.counted new.handles (most_taken result)
