use Rattle.std.proofs.Common.{rules, ◌≡◌, ◌∙◌, ap, ℕ, filter, nat_eq, not, Bool}
use Rattle.std.proofs.lemmas.Fn.{filter_same}
use Rattle.sst_examples.proofs.store.Store.release.Goals as goal
use Rattle.sst_examples.specs.Levels.{Levels, levels}
use Rattle.sst_examples.specs.Tables.{merged_tables}

pub returns : goal.returns
returns c =
    let old = c.self.inside in
    let still : ℕ → Bool = λ s. not (nat_eq s c.args.snapshot) in
    let kept : c.retain.new.self.items ≡ filter still old.snapshots.items =
    filter_same _ still _ (λ x b f r. search rules) old.snapshots.items c.retain.new.self.items c.retain.ensures.filtered in
    ap (levels old.memory.items (merged_tables old.tables.items) old.next) kept
    ∙ ap (λ (s : Levels). record s { snapshots = filter still s.snapshots }) c.self.view_is
