use Rattle.std.proofs.Common.{◌≡◌, Option, Some, ◌∙◌, ap, sym, subst}
use Rattle.std.specs.Result.{IfOk}
use Rattle.std.specs.Vec.{with_items}
use Rattle.sstable_blocks.specs.Prelude.{Entry, entries, first_match}
use Rattle.sst_examples.proofs.Leveled.Levels.{newer_found, older_found}
use Rattle.sst_examples.proofs.Stored.Written.{lists_known, reader_lists, tables_kept}
use Rattle.sst_examples.proofs.store.Store.find.Goals as goal
use Rattle.sst_examples.specs.Levels.{AreLevels, levels, versions}
use Rattle.sst_examples.specs.Tables.{merged_tables}

kept : (c : goal.After-drop-new-in-None) → merged_tables (with_items c.self.inside.tables c.read_tables.new.readers).items ≡ merged_tables c.self.inside.tables.items
kept c =
    let tables = c.self.inside.tables in
    tables_kept tables.items c.deref_mut.result.now c.read_tables.new.readers tables.len c.deref_mut.ensures.value tables.ok.0 c.read_tables.auto.readers c.read_tables.ensures.kept

pub invariant_of-self : goal.invariant_of-self
invariant_of-self c = subst (λ o. AreLevels c.self.inside.memory.items o c.self.inside.next) (sym (kept c)) c.self.invariant

pub returns-in_ok-clone-in-Some-clause-found : goal.returns-in_ok-clone-in-Some-clause-found
returns-in_ok-clone-in-Some-clause-found c =
    let old = c.self.inside in
    let found = first_match entries c.args.key.now c.args.seqno in
    ap Some c.in_ok-clone-in-Some.ensures.cases
    ∙ newer_found c.args.key.now c.args.seqno old.memory.items old.tables.items old.next c.self.invariant c.in-Some.entry.now (c.in-Some.ensures ∙ ap found c.deref.ensures.value)
    ∙ ap (λ s. found (versions s)) c.self.view_is

pub returns-in-None-clause-found : goal.returns-in-None-clause-found
returns-in-None-clause-found c =
    let old = c.self.inside in
    let found = first_match entries c.args.key.now c.args.seqno in
    let k = lists_known old.tables.items c.self.invariant.older c.self.invariant.known in
    let same = older_found c.args.key.now c.args.seqno old.memory.items old.tables.items old.next c.self.invariant k.all k.is (c.in-None.ensures ∙ ap found c.deref.ensures.value) in
    subst (λ (m : Option Entry). IfOk c.read_tables.result (λ r. r ≡ m)) (same ∙ ap (λ s. found (versions s)) c.self.view_is)
    (c.read_tables.ensures.found k.all (reader_lists old.tables.items c.deref_mut.result.now k.all c.deref_mut.ensures.value k.known))

pub returns-in-None-clause-kept : goal.returns-in-None-clause-kept
returns-in-None-clause-kept c = ap (λ o. levels c.self.inside.memory.items o c.self.inside.next c.self.inside.snapshots.items) (kept c) ∙ c.self.view_is
