use Rattle.std.proofs.Common.{ap, subst, sym, ◌∙◌}
use Rattle.sstable_blocks.specs.Prelude.{Entry, Window}
use Rattle.sstable_blocks.specs.Blocks.{joined}
use Rattle.sst_merge.specs.Movable.{item_before}
use Rattle.sst_merge.specs.MovableBlocks.{HoldsBack, back_place, block_lists}
use Rattle.sst_merge.proofs.Moving.BlockEnds.{back_item}
use Rattle.sst_merge.proofs.movable_blocks.MovableBlocksMovableEntryView.last.Goals as goal

pub returns-in-Some : goal.returns-in-Some
returns-in-Some g c =
    let blocks = block_lists c.self.inside.blocks.now in
    sym (back_item blocks c.in-Some.open (subst (HoldsBack blocks) c.in-Some.is c.self.invariant.back_holds))
    ∙ sym (ap (λ o. item_before (joined blocks) (back_place blocks o)) c.in-Some.is) ∙ ap (λ (v : Window Entry). item_before v.list v.hi) c.self.view_is
