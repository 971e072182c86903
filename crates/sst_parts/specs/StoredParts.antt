-- Entries of stored tables, parted or of either kind.
use Rattle.std.specs.Prelude.{◌≡◌, map, ℕ, ◌^◌, nat_lt, ◌&&◌, List, [], length, Option, Some, None, IfSome, Result}
use Rattle.std.specs.Option.{option_map}
use Rattle.sstable_blocks.specs.Blocks.{joined}
use Rattle.sstable_blocks.specs.Prelude.{Entry, HandleParts, Handle, demand, plain}
use Rattle.sstable_blocks.specs.Results.{◌>>=◌, Error, BadHandle}
use Rattle.sst_sources.specs.Sources.{Left}
use Rattle.sst_sources.specs.Stored.{all_keys, are_bytes, checked_list, known_reads, read_errors, scan_list, table_list}
use Rattle.sst_parts.specs.AnyScans.{ended_in, left_in, most_in, source_of}
use Rattle.sst_parts.specs.AnyTables.{read_any, source_in}
use Rattle.sst_parts.specs.PartChecks.{check_parted}
use Rattle.sst_parts.specs.Parts.{IsParted, parted_most}
use Rattle.sst_parts.specs.PartScans.{parts_read}
use Rattle.sst_parts.specs.declared.any_scan.AnyScan.{AnyScan}
use Rattle.sst_parts.specs.declared.any_table.AnyTable.{AnyTable}
use Rattle.sst_parts.specs.declared.any_table.AnyTable.TheVariants.{Plain, Parted}
use Rattle.sst_parts.specs.declared.checking.PartedSummary.{PartedSummary}
use Rattle.sstable_blocks.specs.ReadCosts.{heads_most_in, entries_most_in}
use Rattle.sstable_blocks.specs.RunReading.{Hashes}
use Rattle.sstable_blocks.specs.Scans.{handles_within}
use Rattle.sstable_blocks.specs.Sources.{FailsAs}

-- the check of a parted table, of what can be one
abbrev pub parted_check_of : Hashes → List ℕ → HandleParts → Result PartedSummary Error
parted_check_of c bytes top = do
  fits ← demand (are_bytes bytes && nat_lt top.size (2 ^ 32)) BadHandle
  check_parted c bytes top

-- the entries of a parted table, where its bytes are known and its check accepts them
abbrev pub parted_list : Hashes → Option (List ℕ) → HandleParts → List Handle → Option (List Entry)
parted_list c None top tops = None
parted_list c (Some bytes) top tops = checked_list (parted_check_of c bytes top) (known_reads (parts_read c bytes all_keys (handles_within all_keys tops)))

-- bytes are a parted table, and these entries are those of its parts, as decoded
pub record IsKnownParted (c : Hashes) (bytes : List ℕ) (top : HandleParts) (xs : List Entry) : Type 0 where
  pub parts : List (List (List Entry))
  pub parted : IsParted c parts bytes top
  pub is : xs ≡ map plain (joined (joined parts))

-- the entries of a table of either kind, where its bytes are known and the check of its kind accepts them
abbrev pub any_list : {H S : Type 0} → Hashes → (S → Option (List ℕ)) → AnyTable H S → Option (List Entry)
any_list c bytes (Plain t) = table_list c (bytes t.source) t.handles t.index
any_list c bytes (Parted t) = parted_list c (bytes t.source) t.top t.tops

-- the most heads and entries that a read of it examines, where its bytes are known
abbrev pub any_most : {H S : Type 0} → (S → Option (List ℕ)) → AnyTable H S → List ℕ → ℕ → Option (ℕ × ℕ)
any_most bytes (Plain t) needle seqno = option_map (λ all. (heads_most_in all t.handles needle seqno, entries_most_in all t.handles needle seqno)) (bytes t.source)
any_most bytes (Parted t) needle seqno = option_map (λ all. parted_most all t.tops t.interval needle seqno) (bytes t.source)

-- the errors that a read of it may give: where its bytes are known, those of reading them, and those of a source that fails
abbrev pub MayFailIn : {H S : Type 0} → Hashes → (S → Option (List ℕ)) → (S → Type 0) → AnyTable H S → List ℕ → ℕ → Error → Type 0
MayFailIn c bytes is_reliable t needle seqno e = IfSome (bytes (source_in t)) (λ all. FailsAs (Unit {0}) (is_reliable (source_in t)) (read_any c all t needle seqno) e)

-- what is left of a scan of a table of either kind
abbrev pub any_left : {H S : Type 0} → Hashes → (S → Option (List ℕ)) → AnyScan H S → Left Entry
any_left c bytes s = record {
  list = scan_list (ended_in s) (bytes (source_of s)) (λ all. left_in c all s);
  most = most_in s;
  errors = option_map (λ all. read_errors (left_in c all s)) (bytes (source_of s));
  ended = ended_in s;
}

-- what is left of a scan whose entries are known, and that never fails
abbrev pub known_left : List Entry → Left Entry
known_left items = record { list = Some items; most = length items; errors = Some []; ended = None }
