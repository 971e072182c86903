use Rattle.std.proofs.Common.{inr, refl, sym, ◌∙◌, subst}
use Rattle.sstable_blocks.specs.Prelude.{entries, IsOrdered}
use Rattle.sst_calls.proofs.Lists.Givens.{same_entries}
use Rattle.sst_calls.proofs.data_block.checked_items.Goals as goal

pub returns-then-not-are_views_ordered-clause-refused : goal.returns-then-not-are_views_ordered-clause-refused
returns-then-not-are_views_ordered-clause-refused c = inr (
  refl,
  λ items can.
      (let made = c.in_ok-items.ensures.ok in
      let same = same_entries items c.in_ok-items.items.items (can.are.1 ∙ sym made.1) in
      let yes = c.are_views_ordered.ensures.1 (subst (IsOrdered entries) (same ∙ sym c.as_slice.ensures.value) can.ordered) in
      let no = c.if-not-are_views_ordered.true in
      cc),
)
