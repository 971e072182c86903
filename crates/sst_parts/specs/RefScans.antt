-- Scans of parted tables over borrowed bytes: the entries within a range of keys, from both ends, a part at a time.
use Rattle.std.specs.Prelude.{◌≡◌, ℕ, Bool, List, ◌++◌, length, map, Option, Ok}
use Rattle.std.specs.Iterator.{YieldsFirst, YieldsLast}
use Rattle.sstable_blocks.specs.Prelude.{Counted, Entry, found_item, plain, Handle}
use Rattle.sst_parts.specs.PartChecks.{ForParted}
use Rattle.sst_parts.specs.Parts.{IsStoredPart, PartedParts}
use Rattle.sst_parts.specs.PartScans.{part_reads, parts_read}
use Rattle.sstable_blocks.specs.BlockReading.{items_of, seen_from}
use Rattle.sstable_blocks.specs.Blocks.{joined}
use Rattle.sstable_blocks.specs.RunReading.{Hashes}
use Rattle.sstable_blocks.specs.Scans.{KeyRange, RunScanParts, entries_read, within}
use Rattle.sstable_blocks.specs.Tallies.{Adds, IsUpTo, Tally, search_cost, tally_by, tally_of, tally_sum}

-- the part of a handle is stored in its range, and of it the entries in a range of keys are read
pub record IsScannedPart (c : Hashes) (bytes : List ℕ) (r : KeyRange) (h : Handle) : Type 0 where
  pub blocks : List (List Entry)
  pub stored : IsStoredPart c bytes blocks h
  pub read : part_reads c bytes r h ≡ map Ok (within r (map plain (joined blocks)))

-- what contracts see of the parts that a scan has not reached: the table, the range of keys, their handles, and what was
-- counted of the index of the parts and of the parts that are no longer open
pub record UnreachedRefParts : Type 0 where
  pub table : PartedParts (List ℕ)
  pub range : KeyRange
  pub handles : List Handle
  pub steps : Counted

-- their entries in the range
abbrev pub unreached_entries : Hashes → UnreachedRefParts → List Entry
unreached_entries c u = entries_read (parts_read c u.table.source u.range u.handles)

-- the entries left of the part that was opened at an end, if one was
abbrev pub opened_left : Option RunScanParts → List Entry
opened_left = items_of (λ (s : RunScanParts). s.left)

-- what was counted in the part that was opened at an end, if one was
abbrev pub opened_counts : Option RunScanParts → Tally
opened_counts = tally_of (λ (s : RunScanParts). s.counted)

-- what was counted of a scan by its ends
abbrev pub counted_by : Option RunScanParts → UnreachedRefParts → Option RunScanParts → Tally
counted_by near u far = tally_sum (tally_by u.steps) (opened_counts near) (opened_counts far)

-- the entries left of the part at an end, of the parts that were not reached, and of the part at the other end, seen from
-- the first end
abbrev pub left_from : Hashes → Bool → Option RunScanParts → UnreachedRefParts → Option RunScanParts → List Entry
left_from c back near u far = seen_from back (opened_left near) ++ (seen_from back (unreached_entries c u) ++ seen_from back (opened_left far))

-- what contracts see of a scan of a parted table over borrowed bytes: the table, the range, the entries left, and what was
-- counted since it was made
pub record RefScanParts : Type 0 where
  pub table : PartedParts (List ℕ)
  pub range : KeyRange
  pub left : List Entry
  pub counted : Tally

-- a step from the front gives the first entry left, which is then gone; nothing that was counted is forgotten, and an entry
-- is counted for it
pub record RefScansFirst (old : RefScanParts) (result : Option Entry) (new : RefScanParts) : Type 0 where
  pub table : new.table ≡ old.table
  pub range : new.range ≡ old.range
  pub first : YieldsFirst (λ xs. xs) old.left result new.left
  pub looked : Adds old.counted new.counted (found_item result)

-- a step from the back gives the last
pub record RefScansLast (old : RefScanParts) (result : Option Entry) (new : RefScanParts) : Type 0 where
  pub table : new.table ≡ old.table
  pub range : new.range ≡ old.range
  pub last : YieldsLast (λ xs. xs) old.left result new.left
  pub looked : Adds old.counted new.counted (found_item result)

-- a scan of a range of a parted table begins: the entries of all parts in the range are left, and what was counted is at
-- most what a search for both ends of the range costs in the index of the parts
pub record BeginsRefScan (c : Hashes) (of : PartedParts (List ℕ)) (keys : KeyRange) (scan : RefScanParts) : Type 0 where
  pub table : scan.table ≡ of
  pub range : scan.range ≡ keys
  pub counts : IsUpTo scan.counted (search_cost of.interval (length of.tops))
  pub left : ForParted c of.source of.top (λ parts. scan.left ≡ within keys (map plain (joined (joined parts))))
