use Rattle.std.proofs.Common.{List, inr, refl, sym, ◌∙◌, subst, ap, length}
use Rattle.sstable_blocks.specs.Prelude.{Entry, entries, IsOrdered}
use Rattle.sstable_blocks.specs.Blocks.{CutsFit}
use Rattle.sst_calls.proofs.Lists.Givens.{same_entries}
use Rattle.sst_calls.proofs.run.checked_items.Goals as goal

pub returns-then-not-are_views_ordered-clause-refused : goal.returns-then-not-are_views_ordered-clause-refused
returns-then-not-are_views_ordered-clause-refused c = inr (
  refl,
  λ items can.
      (let made = c.in_ok-items.ensures.ok in
      let same = same_entries items c.in_ok-items.items.items (can.are.1 ∙ sym made.1) in
      let yes = c.are_views_ordered.ensures.1 (subst (IsOrdered entries) (same ∙ sym c.as_slice-parts.ensures.value) can.ordered) in
      let no = c.if-not-are_views_ordered.true in
      cc),
)

pub returns-then-not-cuts_fit-clause-refused : goal.returns-then-not-cuts_fit-clause-refused
returns-then-not-cuts_fit-clause-refused c = inr (
  refl,
  λ items can.
      (let made = c.in_ok-items.ensures.ok in
      let same = same_entries items c.in_ok-items.items.items (can.are.1 ∙ sym made.1) in
      let yes = c.cuts_fit.ensures.1 (subst (λ n. CutsFit 0 n c.args.cuts.now) (ap (λ (xs : List Entry). length xs) (same ∙ sym c.as_slice-parts.ensures.value)) can.cut) in
      let no = c.if-not-cuts_fit.true in
      cc),
)
