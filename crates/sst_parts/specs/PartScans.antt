-- Scans of parted tables: the entries within a range of keys, from both ends, a part at a time.
use Rattle.std.specs.Prelude.{◌≡◌, ℕ, ◌+◌, ◌*◌, ◌<◌, ◌^◌, Bool, List, [], ◌∷◌, ◌++◌, length, map, Option, Some, None, IfSome, Result, Ok, Err, IfErr, MatchResult}
use Rattle.sstable_blocks.specs.Prelude.{HandleParts, Entry, plain, Handle}
use Rattle.sstable_blocks.specs.Results.{Error, Io}
use Rattle.sst_parts.specs.Parts.{IsParted, PartedParts}
use Rattle.sstable_blocks.specs.BlockReading.{seen_from}
use Rattle.sstable_blocks.specs.Blocks.{joined}
use Rattle.sstable_blocks.specs.Opened.{range_of}
use Rattle.sstable_blocks.specs.RunReading.{Hashes, range_at}
use Rattle.sstable_blocks.specs.Scans.{FailsFirst, GivesFirst, GivesLast, KeyRange, Read, ScanParts, blocks_read, handles_within, most_left, reads_left, within}
use Rattle.sstable_blocks.specs.Sources.{KeepsSource, SourceParts}
use Rattle.sstable_blocks.specs.Tables.{kept_by_footer}
use Rattle.sstable_blocks.specs.declared.run.RunHandles.{RunHandles}

-- what is read of a table file in a range, by what is kept of it: the blocks that can have a key in the range, by its
-- index alone; or the error for which it is not opened
abbrev pub kept_reads : Hashes → List ℕ → KeyRange → Result (RunHandles × Option (List ℕ) × List Handle) Error → List Read
kept_reads c file r (Ok kept) = blocks_read c file r (handles_within r kept.2)
kept_reads c file r (Err e) = Err e ∷ []

-- what is read of a table file in a range
abbrev pub file_reads : Hashes → List ℕ → KeyRange → List Read
file_reads c file r = kept_reads c file r (kept_by_footer c file)

-- what is read of a part, by its bytes or the error with which they are refused
abbrev pub bytes_reads : Hashes → KeyRange → Result (List ℕ) Error → List Read
bytes_reads c r (Ok file) = file_reads c file r
bytes_reads c r (Err e) = Err e ∷ []

-- what is read of the part of a handle
abbrev pub part_reads : Hashes → List ℕ → KeyRange → Handle → List Read
part_reads c bytes r h = bytes_reads c r (range_at bytes (range_of h))

-- what is read of the parts of handles, in order
abbrev pub parts_read : Hashes → List ℕ → KeyRange → List Handle → List Read
parts_read c bytes r [] = []
parts_read c bytes r (h ∷ hs) = part_reads c bytes r h ++ parts_read c bytes r hs

-- what is left to read of a part that was opened, and at most how many entries that are
abbrev pub reads_in : Hashes → Option (ScanParts (SourceParts (List ℕ))) → List Read
reads_in c None = []
reads_in c (Some s) = reads_left c s.table.source.inner s

abbrev pub most_in : Option (ScanParts (SourceParts (List ℕ))) → ℕ
most_in None = 0
most_in (Some s) = most_left s

-- a scan of this range goes on
pub record IsGoing (r : KeyRange) (s : ScanParts (SourceParts (List ℕ))) : Type 0 where
  pub going : s.ended ≡ None
  pub range : s.range ≡ r

-- what contracts see of an end of a scan: its range, what is left to read of the part that was opened there, and at most
-- how many entries that are
pub record ScanEndParts : Type 0 where
  pub range : KeyRange
  pub reads : List Read
  pub most : ℕ

-- what contracts see of the parts that a scan has not reached: the table, and their handles
pub record UnreachedParts (S : Type 0) : Type 0 where
  pub table : PartedParts S
  pub handles : List Handle

-- what contracts see of a scan of a parted table: the table and the range; what is left to read of the part that was
-- opened from the front, the handles of the parts that were not reached, and what is left of the part opened from the
-- back; the error that ended it, if one did; and at most how many entries are left
pub record PartScanParts (S : Type 0) : Type 0 where
  pub table : PartedParts S
  pub range : KeyRange
  pub front : List Read
  pub handles : List Handle
  pub back : List Read
  pub ended : Option Error
  pub most : ℕ

-- what is left to read
abbrev pub parts_left : {S : Type 0} → Hashes → List ℕ → PartScanParts S → List Read
parts_left c bytes s = s.front ++ (parts_read c bytes s.range s.handles ++ s.back)

-- a scan of the same table, but for its source, and of the same range
pub record IsSamePartScan {S : Type 0} (old new : PartScanParts S) : Type 0 where
  pub table : new.table ≡ record old.table { source = new.table.source }
  pub range : new.range ≡ old.range

-- What a step does to the source of a scan: its bytes stay the same, its failures are only added to, a reliable one stays
-- reliable; a frame is asked for each part that is reached, and an error is `Io` only where the source failed in that step.
pub record UsesPartScan {S X : Type 0} (bytes : S → Option (List ℕ)) (failures reads : S → ℕ) (is_reliable : S → Type 0) (old new : PartScanParts S) (result : Result X Error) : Type 0 where
  pub source : KeepsSource bytes failures is_reliable old.table.source new.table.source
  pub asks : reads new.table.source + length new.handles ≡ reads old.table.source + length old.handles
  pub io : IfErr result (λ e. e ≡ Io → old.ended ≡ None → failures old.table.source < failures new.table.source)

-- the same where no error has ended the scan; the table stays the same, but for its source
pub record UsesParts {S X : Type 0} (bytes : S → Option (List ℕ)) (failures reads : S → ℕ) (is_reliable : S → Type 0) (old new : UnreachedParts S) (result : Result X Error) : Type 0 where
  pub table : new.table ≡ record old.table { source = new.table.source }
  pub source : KeepsSource bytes failures is_reliable old.table.source new.table.source
  pub asks : reads new.table.source + length new.handles ≡ reads old.table.source + length old.handles
  pub io : IfErr result (λ e. e ≡ Io → failures old.table.source < failures new.table.source)

-- where the bytes of the source are known, a step of a scan that no error ended gives the first of what was left
abbrev pub ReadsFirstPart : {S : Type 0} → Hashes → (S → Option (List ℕ)) → (S → ℕ) → (S → Type 0) → PartScanParts S → PartScanParts S → Result (Option Entry) Error → Type 0
ReadsFirstPart c bytes failures is_reliable old new result = IfSome (bytes old.table.source) (λ all. old.ended ≡ None
    → GivesFirst (failures old.table.source < failures new.table.source) (is_reliable old.table.source) (parts_left c all old) (parts_left c all new) result)

-- or the last
abbrev pub ReadsLastPart : {S : Type 0} → Hashes → (S → Option (List ℕ)) → (S → ℕ) → (S → Type 0) → PartScanParts S → PartScanParts S → Result (Option Entry) Error → Type 0
ReadsLastPart c bytes failures is_reliable old new result = IfSome (bytes old.table.source) (λ all. old.ended ≡ None
    → GivesLast (failures old.table.source < failures new.table.source) (is_reliable old.table.source) (parts_left c all old) (parts_left c all new) result)

-- a scan of bytes that are a parted table has the entries of all parts in the range left
abbrev pub ScansParted : {S : Type 0} → Hashes → HandleParts → PartScanParts S → List ℕ → Type 0
ScansParted c top scan bytes = (parts : List (List (List Entry))) → IsParted c parts bytes top → parts_left c bytes scan ≡ map Ok (within scan.range (map plain (joined (joined parts))))

-- a scan of a range of a parted table begins: no part is read, and of known bytes that are a parted table the entries in
-- the range are left
pub record BeginsPartScan {S : Type 0} (c : Hashes) (bytes : S → Option (List ℕ)) (of : PartedParts S) (keys : KeyRange) (scan : PartScanParts S) : Type 0 where
  pub table : scan.table ≡ of
  pub range : scan.range ≡ keys
  pub handles : scan.handles ≡ handles_within keys of.tops
  pub fresh : (scan.front ≡ []) × (scan.back ≡ []) × (scan.ended ≡ None)
  pub sound : IfSome (bytes of.source) (ScansParted c of.top scan)

-- what is left of the part at an end and of the parts that were not reached, seen from that end
abbrev pub near_left : Hashes → List ℕ → Bool → ScanEndParts → List Handle → List Read
near_left c bytes back near hs = seen_from back near.reads ++ seen_from back (parts_read c bytes near.range hs)

-- at most how many entries these are: a part has at most 2^96, 2^32 in each of 2^64 blocks
abbrev pub near_most : ScanEndParts → List Handle → ℕ
near_most near hs = near.most + 2 ^ 96 * length hs

-- the next part was reached, from an end: what is read of it was the first of what is read of those not reached, and it is
-- opened, or its error is reported
pub record OpensNext {T : Type 0} (c : Hashes) (bytes : List ℕ) (back : Bool) (failed reliable : Type 0) (r : KeyRange) (old new : List Handle) (result : Result T Error) (near : List Read) : Type 0 where
  pub reads : List Read
  pub parts : seen_from back (parts_read c bytes r old) ≡ seen_from back reads ++ seen_from back (parts_read c bytes r new)
  pub opened : MatchResult result (λ _. near ≡ reads) (FailsFirst failed reliable (seen_from back reads))
