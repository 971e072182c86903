use Rattle.std.proofs.Common.{◌≡◌, ℕ, true, List, [], ◌∷◌, ◌++◌, Option, Some, None, map, ◌∙◌, ap, sym, subst}
use Rattle.std.specs.Option.{option_map}
use Rattle.sstable_blocks.specs.Prelude.{Entry, plain}
use Rattle.sst_merge.specs.Compact.{IsKeptRead, compacted}
use Rattle.sst_merge.specs.MappedLaws.{entries_themselves}
use Rattle.sst_sources.specs.Sources.{Left, before, left_as}
use Rattle.sst_examples.proofs.Leveled.Levels.{compacted_left, compacted_same, level_compacted}
use Rattle.sst_examples.proofs.store.Store.compact.Goals as goal
use Rattle.sst_examples.specs.Levels.{AreLevels, Levels, levels, or_none, read}
use Rattle.sst_examples.specs.Tables.{HoldsEntries, MemoryTable, merged_tables}

-- the table has what the compaction of the tables' merge leaves
written : (snapshots : List ℕ) (tables lent : List MemoryTable) (merged source : Left Entry) (table : Option MemoryTable) → merged.list ≡ merged_tables lent → lent ≡ tables → source ≡ left_as (compacted (λ (e : Entry). e) snapshots (λ _. true)) None merged
    → ((items : List Entry) → source.list ≡ Some items → HoldsEntries table (map plain items)) → (older : List Entry) → merged_tables tables ≡ Some older → HoldsEntries table (map plain (compacted (λ (e : Entry). e) snapshots (λ _. true) older))
written snapshots tables lent merged source table is same compacts of older known =
    let left = compacted (λ (e : Entry). e) snapshots (λ _. true) in
    of (left older) (ap (λ (s : Left Entry). s.list) compacts ∙ ap (option_map left) (is ∙ ap merged_tables same ∙ known))

-- the sequence numbers that may be read at
abbrev reads_at : goal.After-drop-self-inside → List ℕ
reads_at c = c.self.inside.snapshots.items ++ c.self.inside.next ∷ []

same_reads : (c : goal.After-drop-self-inside) → c.in_ok-snapshots.snapshots.items ≡ reads_at c
same_reads c = c.in_ok-snapshots.ensures ∙ sym (ap (λ (s : Levels). s.snapshots ++ s.next ∷ []) c.self.view_is)

abbrev IsLeft : goal.After-drop-self-inside → Type 0
IsLeft c = (older : List Entry) → merged_tables c.self.inside.tables.items ≡ Some older → HoldsEntries c.in_ok-table.table (map plain (compacted (λ (e : Entry). e) (reads_at c) (λ _. true) older))

left : (c : goal.After-drop-self-inside) → IsLeft c
left c = written (reads_at c) c.self.inside.tables.items c.deref.result.now c.in_ok-merged.merged c.new-compacted.result c.in_ok-table.table c.in_ok-merged.ensures c.deref.ensures.value (c.new-compacted.ensures ∙ ap (λ l. left_as (compacted (λ (e : Entry). e) l (λ _. true)) None c.in_ok-merged.merged) (same_reads c)) (λ items known. c.in_ok-table.ensures items (entries_themselves c.new-compacted.result.list ∙ known))

added : (c : goal.After-drop-self-inside) → c.add_table.new.tables.items ≡ before c.in_ok-table.table []
added c = c.in_ok-add_table.ensures.ok ∙ ap (before c.in_ok-table.table) c.new-tables.ensures.items

pub invariant_of-self : goal.invariant_of-self
invariant_of-self c =
    let old = c.self.inside in
    subst (λ ts. AreLevels old.memory.items (merged_tables ts) old.next) (sym (added c))
    (level_compacted old.memory.items old.tables.items old.next (reads_at c) c.self.invariant c.in_ok-table.table (left c) c.first_match_of_plain.ensures c.compaction_keeps_reads.ensures.reads c.compaction_keeps_reads.ensures.ordered)

pub returns-clause-reads : goal.returns-clause-reads
returns-clause-reads c = λ key seqno kept.
    let old = c.self.inside in
    let at : IsKeptRead (reads_at c) seqno = subst (λ (s : Levels). IsKeptRead (s.snapshots ++ s.next ∷ []) seqno) (sym c.self.view_is) kept in
    ap (λ ts. read (levels old.memory.items (merged_tables ts) old.next old.snapshots.items) key seqno) (added c)
    ∙ compacted_same old.memory.items old.tables.items old.next (reads_at c) c.self.invariant c.in_ok-table.table (left c) c.first_match_of_plain.ensures c.compaction_keeps_reads.ensures.reads c.compaction_keeps_reads.ensures.ordered key seqno at
    ∙ ap (λ s. read s key seqno) c.self.view_is

pub returns-clause-stored : goal.returns-clause-stored
returns-clause-stored c =
    let old = c.self.inside in
    ap (λ ts. or_none (merged_tables ts)) (added c)
    ∙ compacted_left old.memory.items old.tables.items old.next (reads_at c) c.self.invariant c.in_ok-table.table (left c) c.first_match_of_plain.ensures c.compaction_keeps_reads.ensures.reads c.compaction_keeps_reads.ensures.ordered
    ∙ ap (λ s. map plain (compacted (λ (e : Entry). e) (s.snapshots ++ s.next ∷ []) (λ _. true) s.stored)) c.self.view_is
