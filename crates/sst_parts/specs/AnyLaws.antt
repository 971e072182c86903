-- Tables of either kind: what reads find among their entries, and what a scan begins with.
use Rattle.std.proofs.Common.{◌≡◌, ℕ, List, Option, Some, None, IfSome, IfOk, Result, Ok, map, sym, subst, ◌∙◌, ap}
use Rattle.sstable_blocks.specs.Prelude.{Entry, plain, entries, first_match}
use Rattle.sstable_blocks.specs.Results.{Error}
use Rattle.sst_parts.specs.AnyScans.{BeginsAnyScan, ended_in, left_in, range_in, source_of}
use Rattle.sst_parts.specs.AnyTables.{FindsInAny, HasEntries, source_in}
use Rattle.sst_parts.specs.Parts.{PartedParts}
use Rattle.sst_parts.specs.PartScans.{PartScanParts, ScansParted}
use Rattle.sst_parts.specs.declared.any_scan.AnyScan.{AnyScan}
use Rattle.sst_parts.specs.declared.any_scan.AnyScan.TheVariants as scans
use Rattle.sst_parts.specs.declared.any_table.AnyTable.{AnyTable}
use Rattle.sst_parts.specs.declared.any_table.AnyTable.TheVariants as tables
use Rattle.sstable_blocks.specs.Blocks.{joined}
use Rattle.sstable_blocks.specs.RunReading.{Hashes}
use Rattle.sstable_blocks.specs.Scans.{KeyRange, ScanParts, ScansSound, within}
use Rattle.sstable_blocks.specs.Tables.{TableParts}

-- a read gives the first match of the table's entries
pub finds : {H S : Type 0} (c : Hashes) (t : AnyTable H S) (needle : List ℕ) (seqno : ℕ) (result : Result (Option Entry) Error) (o : Option (List ℕ)) → IfSome o (FindsInAny c t needle seqno result)
    → IfSome o (λ all. (items : List Entry) → HasEntries c t all items → IfOk result (λ found. found ≡ first_match entries needle seqno items))
finds c t needle seqno result None h = tt
finds c (tables.Plain t) needle seqno result (Some all) h = λ items has. subst (λ xs. IfOk result (λ found. found ≡ first_match entries needle seqno xs)) (sym has.2) (h has.0 has.1)
finds c (tables.Parted t) needle seqno result (Some all) h = λ items has. subst (λ xs. IfOk result (λ found. found ≡ first_match entries needle seqno xs)) (sym has.2) (h has.0 has.1)

-- it scans the table from its source on, in the range, no error ended it, and of known bytes that are such a table the entries
-- in the range are left
pub record IsBegun {H S : Type 0} (c : Hashes) (bytes : S → Option (List ℕ)) (of : AnyTable H S) (keys : KeyRange) (scan : AnyScan H S) : Type 0 where
  pub source : source_of scan ≡ source_in of
  pub range : range_in scan ≡ keys
  pub going : ended_in scan ≡ None
  pub left : IfSome (bytes (source_in of)) (λ all. (items : List Entry) → HasEntries c of all items → left_in c all scan ≡ map Ok (within (range_in scan) (map plain items)))

sound_left : (H : Type 0) {S : Type 0} (c : Hashes) (o : Option (List ℕ)) (t : TableParts S) (s : ScanParts S) → IfSome o (ScansSound c t.handles s)
    → IfSome o (λ all. (items : List Entry) → HasEntries {H = H} c (tables.Plain t) all items → left_in {H = H} c all (scans.Plain s) ≡ map Ok (within s.range (map plain items)))
sound_left H c None t s h = tt
sound_left H c (Some all) t s h = λ items has. h has.0 has.1 ∙ ap (λ xs. map Ok (within s.range (map plain xs))) (sym has.2)

parted_left : (H : Type 0) {S : Type 0} (c : Hashes) (o : Option (List ℕ)) (t : PartedParts S) (s : PartScanParts S) → IfSome o (ScansParted c t.top s)
    → IfSome o (λ all. (items : List Entry) → HasEntries {H = H} c (tables.Parted t) all items → left_in {H = H} c all (scans.Parted s) ≡ map Ok (within s.range (map plain items)))
parted_left H c None t s h = tt
parted_left H c (Some all) t s h = λ items has. h has.0 has.1 ∙ ap (λ xs. map Ok (within s.range (map plain xs))) (sym has.2)

pub begun : {H S : Type 0} (c : Hashes) (bytes : S → Option (List ℕ)) (t : AnyTable H S) (keys : KeyRange) (s : AnyScan H S) → BeginsAnyScan c bytes t keys s → IsBegun c bytes t keys s
begun {H = H} {S = S} c bytes (tables.Plain t) keys (scans.Plain s) b = record { source = ap (λ (u : TableParts S). u.source) b.table; range = b.range; going = b.fresh.2; left = sound_left H c (bytes t.source) t s b.sound }
begun {H = H} {S = S} c bytes (tables.Parted t) keys (scans.Parted s) b = record { source = ap (λ (u : PartedParts S). u.source) b.table; range = b.range; going = b.fresh.2; left = parted_left H c (bytes t.source) t s b.sound }
begun c bytes (tables.Plain t) keys (scans.Parted s) b = absurd b
begun c bytes (tables.Parted t) keys (scans.Plain s) b = absurd b
