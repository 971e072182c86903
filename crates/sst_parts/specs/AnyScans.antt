-- Scans of tables of either kind.
use Rattle.std.specs.Prelude.{◌≡◌, ◌+◌, ◌<◌, ℕ, List, length, Option, None, IfSome, Result, IfErr}
use Rattle.sstable_blocks.specs.Prelude.{Entry, Handle}
use Rattle.sstable_blocks.specs.Results.{Error, Io}
use Rattle.sst_parts.specs.PartScans.{BeginsPartScan, IsSamePartScan, parts_left}
use Rattle.sst_parts.specs.declared.any_scan.AnyScan.{AnyScan}
use Rattle.sst_parts.specs.declared.any_scan.AnyScan.TheVariants as scans
use Rattle.sst_parts.specs.declared.any_ref_scan.AnyRefScan.{AnyRefScan}
use Rattle.sst_parts.specs.declared.any_ref_scan.AnyRefScan.TheVariants as refs
use Rattle.sst_parts.specs.declared.any_table.AnyTable.{AnyTable}
use Rattle.sst_parts.specs.declared.any_table.AnyTable.TheVariants as tables
use Rattle.sstable_blocks.specs.RunReading.{Hashes}
use Rattle.sstable_blocks.specs.Scans.{BeginsTableScan, GivesFirst, GivesLast, IsSameScan, KeyRange, Read, most_left, reads_left}
use Rattle.sstable_blocks.specs.Sources.{KeepsSource}
use Rattle.sstable_blocks.specs.Tallies.{Adds, CountsFirst, CountsLast, least_taken, most_taken}

-- the source of a scan, its range, the handles of what it has not reached, the error that ended it, if one did, and at most
-- how many entries are left
abbrev pub source_of : {H S : Type 0} → AnyScan H S → S
source_of (scans.Plain s) = s.table.source
source_of (scans.Parted s) = s.table.source

abbrev pub range_in : {H S : Type 0} → AnyScan H S → KeyRange
range_in (scans.Plain s) = s.range
range_in (scans.Parted s) = s.range

abbrev pub unreached_in : {H S : Type 0} → AnyScan H S → List Handle
unreached_in (scans.Plain s) = s.handles
unreached_in (scans.Parted s) = s.handles

abbrev pub ended_in : {H S : Type 0} → AnyScan H S → Option Error
ended_in (scans.Plain s) = s.ended
ended_in (scans.Parted s) = s.ended

abbrev pub most_in : {H S : Type 0} → AnyScan H S → ℕ
most_in (scans.Plain s) = most_left s
most_in (scans.Parted s) = s.most

-- what is left to read
abbrev pub left_in : {H S : Type 0} → Hashes → List ℕ → AnyScan H S → List Read
left_in c bytes (scans.Plain s) = reads_left c bytes s
left_in c bytes (scans.Parted s) = parts_left c bytes s

-- a scan of the same table, but for its source, and of the same range
abbrev pub IsSameAnyScan : {H S : Type 0} → AnyScan H S → AnyScan H S → Type 0
IsSameAnyScan (scans.Plain old) (scans.Plain new) = IsSameScan old new
IsSameAnyScan (scans.Parted old) (scans.Parted new) = IsSamePartScan old new
IsSameAnyScan old new = ⊥

-- What a step does to the source of a scan: its bytes stay the same, its failures are only added to, a reliable one stays
-- reliable; a frame is asked for each block or part that is reached, and an error is `Io` only where the source failed in
-- that step.
pub record UsesAnyScan {H S X : Type 0} (bytes : S → Option (List ℕ)) (failures reads : S → ℕ) (is_reliable : S → Type 0) (old new : AnyScan H S) (result : Result X Error) : Type 0 where
  pub source : KeepsSource bytes failures is_reliable (source_of old) (source_of new)
  pub asks : reads (source_of new) + length (unreached_in new) ≡ reads (source_of old) + length (unreached_in old)
  pub io : IfErr result (λ e. e ≡ Io → ended_in old ≡ None → failures (source_of old) < failures (source_of new))

-- where the bytes of the source are known, a step of a scan that no error ended gives the first of what was left
abbrev pub GivesFirstOfAny : {H S : Type 0} → Hashes → (S → Option (List ℕ)) → (S → ℕ) → (S → Type 0) → AnyScan H S → AnyScan H S → Result (Option Entry) Error → Type 0
GivesFirstOfAny c bytes failures is_reliable old new result = IfSome (bytes (source_of old)) (λ all. ended_in old ≡ None
    → GivesFirst (failures (source_of old) < failures (source_of new)) (is_reliable (source_of old)) (left_in c all old) (left_in c all new) result)

-- or the last
abbrev pub GivesLastOfAny : {H S : Type 0} → Hashes → (S → Option (List ℕ)) → (S → ℕ) → (S → Type 0) → AnyScan H S → AnyScan H S → Result (Option Entry) Error → Type 0
GivesLastOfAny c bytes failures is_reliable old new result = IfSome (bytes (source_of old)) (λ all. ended_in old ≡ None
    → GivesLast (failures (source_of old) < failures (source_of new)) (is_reliable (source_of old)) (left_in c all old) (left_in c all new) result)

-- What a step of a scan of a plain table examines, at least and at most; one in parts does not say.
abbrev pub LooksInAnyScan : {H S : Type 0} → AnyScan H S → AnyScan H S → Result (Option Entry) Error → Type 0
LooksInAnyScan (scans.Plain old) (scans.Plain new) result = Adds old.counted new.counted (least_taken result)
LooksInAnyScan old new result = Unit {0}

abbrev pub CountsFirstOfAny : {H S : Type 0} → (S → Option (List ℕ)) → AnyScan H S → AnyScan H S → Result (Option Entry) Error → Type 0
CountsFirstOfAny bytes (scans.Plain old) (scans.Plain new) result = IfSome (bytes old.table.source) (λ all. CountsFirst all old.table.interval old.counted old.handles new.counted new.handles (most_taken result))
CountsFirstOfAny bytes old new result = Unit {0}

abbrev pub CountsLastOfAny : {H S : Type 0} → (S → Option (List ℕ)) → AnyScan H S → AnyScan H S → Result (Option Entry) Error → Type 0
CountsLastOfAny bytes (scans.Plain old) (scans.Plain new) result = IfSome (bytes old.table.source) (λ all. CountsLast all old.table.interval old.counted old.handles new.counted new.handles (most_taken result))
CountsLastOfAny bytes old new result = Unit {0}

-- a scan of a range of a table begins
abbrev pub BeginsAnyScan : {H S : Type 0} → Hashes → (S → Option (List ℕ)) → AnyTable H S → KeyRange → AnyScan H S → Type 0
BeginsAnyScan c bytes (tables.Plain t) keys (scans.Plain s) = BeginsTableScan c bytes t keys s
BeginsAnyScan c bytes (tables.Parted t) keys (scans.Parted s) = BeginsPartScan c bytes t keys s
BeginsAnyScan c bytes t keys s = ⊥

-- the entries left of a scan over borrowed bytes
abbrev pub ref_left : {H : Type 0} → AnyRefScan H → List Entry
ref_left (refs.Plain s) = s.left
ref_left (refs.Parted s) = s.left
