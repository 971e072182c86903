-- Tables of a store.
use Rattle.std.specs.Prelude.{◌≡◌, ℕ, List, [], map, Option, Some, None}
use Rattle.std.specs.Option.{option_map}
use Rattle.xxh3.specs.Xxh3.{xxh3_64, xxh3_128}
use Rattle.sstable_blocks.specs.Blocks.{joined}
use Rattle.sstable_blocks.specs.Prelude.{Entry}
use Rattle.sstable_blocks.specs.TableKinds.{TableKind}
use Rattle.sst_sources.specs.Merge.{entry_cmp, merged}
use Rattle.sst_sources.specs.Sources.{all_known}
use Rattle.sst_parts.specs.StoredParts.{any_list}
use Rattle.sst_parts.specs.declared.any_table.AnyTable.{AnyTable}
use Rattle.sstable_blocks.specs.RunReading.{Hashes, hashes}
use Rattle.sstable_blocks.specs.Sources.{SourceParts}
use Rattle.sstable_blocks.specs.declared.run.RunHandles.{RunHandles}
use Rattle.sstable_blocks.specs.declared.xxh3_hash.Xxh3.{Xxh3}

-- what clauses see of a table in memory, of either kind
abbrev pub MemoryTable : Type 0
MemoryTable = AnyTable Xxh3 (SourceParts (List ℕ))

-- the hashes of the tables
abbrev pub table_hashes : Hashes
table_hashes = hashes xxh3_64 xxh3_128

-- the entries of a table, where the check of its kind accepts its bytes
unfoldable pub table_entries : MemoryTable → Option (List Entry)
table_entries t = any_list table_hashes (λ (s : SourceParts (List ℕ)). Some s.inner) t

-- the merge of tables, where the entries of all of them are known: of equal versions, those of the earlier table come
-- first
abbrev pub merged_tables : List MemoryTable → Option (List Entry)
merged_tables tables = option_map (merged entry_cmp) (all_known (map table_entries tables))

-- a table has these entries; there is none where there are none
abbrev pub HoldsEntries : Option MemoryTable → List Entry → Type 0
HoldsEntries None items = items ≡ []
HoldsEntries (Some t) items = table_entries t ≡ Some items

-- bytes were written as a table of a kind that has these entries, with the handles for its footer; nothing was where there
-- are none
abbrev pub IsWrittenAs : TableKind → List Entry → Option (RunHandles × List ℕ) → Type 0
IsWrittenAs kind items None = items ≡ []
IsWrittenAs kind items (Some w) = (blocks : List (List Entry)) × kind.appends blocks (Some []) (Some w.1) w.0 × (joined blocks ≡ items)
