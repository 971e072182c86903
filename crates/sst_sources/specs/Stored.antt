-- Entries of stored tables.
use Rattle.std.specs.Prelude.{◌≡◌, ℕ, ◌^◌, nat_lt, Bool, ◌&&◌, true, if◌then◌else◌, List, [], ◌∷◌, ◌++◌, Option, Some, None, Result, Ok, Err}
use Rattle.std.specs.Option.{option_map}
use Rattle.std.specs.declared.ops.Bound.TheVariants.{Unbounded}
use Rattle.sstable_blocks.specs.Prelude.{Entry, HandleParts, is_in_order, Handle}
use Rattle.sstable_blocks.specs.Results.{Error, BadHandle, Io, Truncated}
use Rattle.sst_sources.specs.Merge.{entry_cmp}
use Rattle.sstable_blocks.specs.RunChecks.{check_run}
use Rattle.sstable_blocks.specs.RunReading.{Hashes}
use Rattle.sstable_blocks.specs.Scans.{Read, KeyRange, blocks_read, handles_within}
use Rattle.sstable_blocks.specs.declared.run.RunHandles.{RunHandles}
use Rattle.sstable_blocks.specs.declared.run.checking.RunSummary.{RunSummary}

-- the entries of what is read, where each is read
abbrev pub known_reads : List Read → Option (List Entry)
known_reads [] = Some []
known_reads (Ok x ∷ reads) = option_map (λ xs. x ∷ xs) (known_reads reads)
known_reads (Err e ∷ reads) = None

-- the entries left of a scan: where it has not ended with an error, the bytes are known, and all that is left is read
abbrev pub scan_list : Option Error → Option (List ℕ) → (List ℕ → List Read) → Option (List Entry)
scan_list (Some e) bytes reads = None
scan_list None None reads = None
scan_list None (Some all) reads = known_reads (reads all)

-- the errors that a source of frames may report where a block is read with this one: a range that is not inside may be
-- reported as `Io` or `Truncated` too
abbrev pub reported : Error → List Error
reported BadHandle = BadHandle ∷ Io ∷ Truncated ∷ []
reported e = e ∷ []

-- the errors that reading these may give
abbrev pub read_errors : List Read → List Error
read_errors [] = []
read_errors (Ok x ∷ reads) = read_errors reads
read_errors (Err e ∷ reads) = reported e ++ read_errors reads

-- a device may fail by `Io` at any time, unless each source of frames of its kind is reliable
abbrev pub MayFailAnyTime : {S : Type 0} → (S → Type 0) → Error → Type 0
MayFailAnyTime {S = S} is_reliable e = (e ≡ Io) × (((s : S) → is_reliable s) → ⊥)

-- entries, where they are in order
abbrev pub if_ordered : List Entry → Option (List Entry)
if_ordered xs = if is_in_order entry_cmp xs then Some xs else None

-- what is read, where a check accepted all, each entry is read, and they are in order
abbrev pub checked_list : {S : Type 0} → Result S Error → Option (List Entry) → Option (List Entry)
checked_list (Err e) read = None
checked_list (Ok s) None = None
checked_list (Ok s) (Some xs) = if_ordered xs

-- the range of all keys
abbrev pub all_keys : KeyRange
all_keys = record { from = Unbounded; to = Unbounded }

-- is each number that of a byte?
abbrev pub are_bytes : List ℕ → Bool
are_bytes [] = true
are_bytes (b ∷ bytes) = nat_lt b 256 && are_bytes bytes

-- has a frame less than 2 ^ 32 bytes, if there is one?
abbrev pub filter_fits : Option HandleParts → Bool
filter_fits None = true
filter_fits (Some h) = nat_lt h.size (2 ^ 32)

-- the check of a run, of what can be one
abbrev pub check_of : Hashes → List ℕ → RunHandles → Result RunSummary Error
check_of c bytes h = if are_bytes bytes && (nat_lt h.index.size (2 ^ 32) && filter_fits h.filter) then check_run c bytes h else Err BadHandle

-- the entries of a table, where its bytes are known and its check accepts them
abbrev pub table_list : Hashes → Option (List ℕ) → RunHandles → List Handle → Option (List Entry)
table_list c None h index = None
table_list c (Some bytes) h index = checked_list (check_of c bytes h) (known_reads (blocks_read c bytes all_keys (handles_within all_keys index)))
