use Rattle.std.proofs.Common.{◌≡◌, map, take}
use Rattle.sst_examples.proofs.Stored.Written.{lists}
use Rattle.sst_examples.proofs.store.tables.merge_of.Given as goal
use Rattle.sst_examples.specs.Tables.{table_entries}

-- the sources have the entries of the tables before the index
abbrev pub invariant-loop-table : goal.invariant-loop-table
invariant-loop-table l = lists l.heads.items ≡ map table_entries (take l.table-index l.tables)
