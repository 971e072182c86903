-- What is left of a scan of a table whose entries are not known.
use Rattle.std.specs.Prelude.{ℕ, List, Option, None}
use Rattle.sstable_blocks.specs.Prelude.{Entry}
use Rattle.sst_sources.specs.Sources.{Left}
use Rattle.sst_parts.specs.StoredParts.{any_left}
use Rattle.sst_parts.specs.declared.any_scan.AnyScan.{AnyScan}
use Rattle.sstable_blocks.specs.RunReading.{Hashes}

-- what is left of a scan, from either end: its entries are not told
abbrev pub scanned_left : {H S : Type 0} → Hashes → (S → Option (List ℕ)) → AnyScan H S → Left Entry
scanned_left c bytes s = record (any_left c bytes s) { list = None }
