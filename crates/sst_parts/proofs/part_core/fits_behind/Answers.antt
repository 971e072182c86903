use Rattle.std.proofs.Common.{◌≡◌, ◌∙◌, Some, map, sym, ap, IsTrue}
use Rattle.std.specs.List.{slice_get}
use Rattle.sstable_blocks.specs.Prelude.{Entry}
use Rattle.sst_parts.proofs.Writing.Ends.{first_mapped, follows_from, follows_to}
use Rattle.sst_parts.proofs.part_core.fits_behind.Goals as goal

pub returns-then-are_ordered : goal.returns-then-are_ordered
returns-then-are_ordered g c = λ blocks l o.
    let entry = g.T.AsEntry.entry in
    let items = map entry c.args.items.now in
    let first : slice_get items 0 ≡ Some c.view.result = first_mapped entry c.args.items.now c.in-Some.first.now (sym c.in-Some.ensures.value) ∙ ap (λ (x : Entry). Some x) (sym c.view.ensures) in (
      (λ t. follows_from blocks _ items c.view.result l o first (c.are_ordered.ensures.0 c.if-are_ordered.true) (c.is_behind.ensures.0 t)),
      (λ f. c.is_behind.ensures.1 (follows_to blocks _ items c.view.result l first f).1),
    )

pub returns-else-are_ordered : goal.returns-else-are_ordered
returns-else-are_ordered g c = λ blocks l o.
    let entry = g.T.AsEntry.entry in
    let items = map entry c.args.items.now in
    let first : slice_get items 0 ≡ Some (entry c.in-Some.first.now) = first_mapped entry c.args.items.now c.in-Some.first.now (sym c.in-Some.ensures.value) in (
      (λ (t : IsTrue c.are_ordered.result). let w = c.if-are_ordered.false in cc),
      (λ f. c.are_ordered.ensures.1 (follows_to blocks _ items (entry c.in-Some.first.now) l first f).0),
    )
