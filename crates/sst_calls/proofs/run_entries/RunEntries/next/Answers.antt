use Rattle.std.proofs.Common.{◌∙◌, ◌∷◌, sym, ap}
use Rattle.sstable_blocks.specs.Prelude.{entry_of}
use Rattle.sst_calls.specs.Windows.{blocks_in, left_in}
use Rattle.sst_calls.proofs.Lists.Walks.{entry_taken, none_taken}
use Rattle.sst_calls.proofs.run_entries.RunEntries.next.Goals as goal

pub returns-in_default : goal.returns-in_default
returns-in_default c =
    let none = none_taken c.self.inside.walk c.next_item.new.walk (c.in_default.ensures.first 0) in
    (sym c.self.view_is ∙ none.0, none.1)

pub returns : goal.returns
returns c =
    let new = c.next_item.new.walk in
    let same = sym (c.new.ensures ∙ ap (λ p. entry_of p c.in-Some.item) c.as_slice-payload.ensures.value) in
    sym c.self.view_is ∙ entry_taken c.self.inside.walk new _ (c.in-Some.ensures.first.1 0) ∙ ap (λ y. y ∷ left_in (blocks_in new.bytes.now new.handles) new.window) same
