use Rattle.std.proofs.Common.{[], Some, ◌∙◌, ap}
use Rattle.sst_merge.specs.MappedLaws.{entries_themselves}
use Rattle.sst_examples.proofs.Leveled.Levels.{IsFlushed, memory_flushed}
use Rattle.sst_examples.proofs.store.Store.flush.Goals as goal
use Rattle.sst_examples.proofs.Stored.Written.{zip_same}
use Rattle.sst_examples.specs.Levels.{Levels, versions}

flushed : (c : goal.After-clear) → IsFlushed c.self.inside.memory.items c.self.inside.tables.items c.self.inside.next c.self.inside.snapshots.items c.clear.new.self.items c.add_table.new.tables.items
flushed c =
    let old = c.self.inside in
    let copy = c.in_ok-memory.memory.items in
    memory_flushed old.memory.items old.tables.items old.next old.snapshots.items c.self.invariant c.in_ok-table.table copy c.clear.new.self.items c.add_table.new.tables.items
    (c.in_ok-table.ensures copy (entries_themselves _ ∙ ap Some c.into_iter.ensures.rest)) (zip_same old.memory.items copy c.in_ok-memory.ensures.cases.0) c.clear.ensures.items c.in_ok-add_table.ensures.ok

pub invariant_of-self-2 : goal.invariant_of-self-2
invariant_of-self-2 c = (flushed c).are

abbrev in_tables : Levels → Levels
in_tables s = record { memory = []; stored = versions s; next = s.next; snapshots = s.snapshots }

pub returns-clause-ok : goal.returns-clause-ok
returns-clause-ok c = (flushed c).is ∙ ap in_tables c.self.view_is

pub returns-clause-same : goal.returns-clause-same
returns-clause-same c = ap versions (flushed c).is ∙ ap versions c.self.view_is
