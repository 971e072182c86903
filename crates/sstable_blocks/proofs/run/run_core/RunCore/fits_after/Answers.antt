use Rattle.std.proofs.Common.{◌≡◌, ◌∙◌, Some, map, sym, ap, IsTrue}
use Rattle.std.specs.List.{slice_get}
use Rattle.sst_base.specs.Entry.{Entry}
use Rattle.sstable_blocks.proofs.Layouts.Kept.{follows_from, follows_ordered, follows_behind}
use Rattle.sstable_blocks.proofs.Lists.Mapped.{get_mapped}
use Rattle.sstable_blocks.proofs.run.run_core.RunCore.fits_after.Goals as goal

pub returns-then-are_ordered : goal.returns-then-are_ordered
returns-then-are_ordered g c =
    let entry = g.T.AsEntry.entry in
    let items = map entry c.args.items.now in
    let first : slice_get items 0 ≡ Some c.view.result = get_mapped entry c.args.items.now 0 c.in-Some.first.now (sym c.in-Some.ensures.value) ∙ ap (λ (x : Entry). Some x) (sym c.view.ensures) in
    let e = c.is_behind.ensures in (
      (λ t. follows_from c.args.self.now.blocks items c.view.result first e.ordered (c.are_ordered.ensures.0 c.if-are_ordered.true) (e.behind.0 t)),
      (λ h. e.behind.1 (follows_behind c.args.self.now.blocks items c.view.result first h)),
    )

pub returns-else-are_ordered : goal.returns-else-are_ordered
returns-else-are_ordered g c = (
  (λ (t : IsTrue c.are_ordered.result). let w = c.if-are_ordered.false in cc),
  (λ h. c.are_ordered.ensures.1 (follows_ordered c.args.self.now.blocks (map g.T.AsEntry.entry c.args.items.now) h)),
)
