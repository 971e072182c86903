use Rattle.std.proofs.Common.{◌≡◌, ◌∷◌, [], Some, ◌∙◌, ap, sym, subst, List, ℕ}
use Rattle.std.specs.List.{insert}
use Rattle.sstable_blocks.specs.Prelude.{Entry}
use Rattle.sst_sources.specs.Merge.{entry_cmp, merge}
use Rattle.sst_merge.specs.Snapshot.{seen}
use Rattle.sst_examples.proofs.Leveled.Levels.{version_added}
use Rattle.sst_examples.proofs.store.Store.add.Goals as goal
use Rattle.sst_examples.specs.Levels.{IsVersionWritten, levels, version}
use Rattle.sst_examples.specs.Tables.{merged_tables}

-- a version that was inserted at its place was merged into the list
inserted : (memory held new : List Entry) (at : ℕ) (e entry : Entry) → new ≡ insert memory at e → insert held at e ≡ merge entry_cmp (e ∷ []) held → held ≡ memory → e ≡ entry → new ≡ merge entry_cmp (entry ∷ []) memory
inserted memory held new at e entry is place same made =
    is ∙ ap (λ xs. insert xs at e) (sym same) ∙ place ∙ ap (merge entry_cmp (e ∷ [])) same ∙ ap (λ x. merge entry_cmp (x ∷ []) memory) made

pub invariant_of-self-2 : goal.invariant_of-self-2
invariant_of-self-2 c =
    let old = c.self.inside in
    let made = version c.args.key old.next c.args.value_type c.args.value in
    let is = inserted old.memory.items c.deref.result.now c.insert.new.self.items c.place_of-at.result c.from_components-entry.result made
    c.in_ok-insert.ensures.items c.place_of-at.ensures.place c.deref.ensures.value c.from_components-entry.ensures in
    (version_added old.memory.items (merged_tables old.tables.items) old.next old.snapshots.items c.self.invariant c.args.key c.args.value c.args.value_type c.requires.value.1 c.insert.new.self.items c.in-Some.next is c.in-Some.ensures.1).are

pub returns-clause-written : goal.returns-clause-written
returns-clause-written c =
    let old = c.self.inside in
    let tables = merged_tables old.tables.items in
    let made = version c.args.key old.next c.args.value_type c.args.value in
    let is = inserted old.memory.items c.deref.result.now c.insert.new.self.items c.place_of-at.result c.from_components-entry.result made
    c.in_ok-insert.ensures.items c.place_of-at.ensures.place c.deref.ensures.value c.from_components-entry.ensures in
    let added = version_added old.memory.items tables old.next old.snapshots.items c.self.invariant c.args.key c.args.value c.args.value_type c.requires.value.1 c.insert.new.self.items c.in-Some.next is c.in-Some.ensures.1 in
    subst (λ s. IsVersionWritten s (levels c.insert.new.self.items tables c.in-Some.next old.snapshots.items) c.args.key (seen (Some (version c.args.key s.next c.args.value_type c.args.value)))) c.self.view_is added.written
