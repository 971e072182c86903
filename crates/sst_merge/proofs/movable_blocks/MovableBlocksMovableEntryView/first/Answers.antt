use Rattle.std.proofs.Common.{ap, slice_get, subst, sym, ◌∙◌}
use Rattle.sstable_blocks.specs.Prelude.{Entry, Window}
use Rattle.sstable_blocks.specs.Blocks.{joined}
use Rattle.sst_merge.specs.MovableBlocks.{HoldsFront, block_lists, front_place}
use Rattle.sst_merge.proofs.Moving.BlockEnds.{front_item, front_none}
use Rattle.sst_merge.proofs.movable_blocks.MovableBlocksMovableEntryView.first.Goals as goal

pub returns-in-Some : goal.returns-in-Some
returns-in-Some g c =
    let blocks = block_lists c.self.inside.blocks.now in
    sym (front_item blocks c.in-Some.open (subst (HoldsFront blocks) c.in-Some.is c.self.invariant.front_holds))
    ∙ sym (ap (λ o. slice_get (joined blocks) (front_place blocks o)) c.in-Some.is) ∙ ap (λ (v : Window Entry). slice_get v.list v.lo) c.self.view_is

pub returns-in-None : goal.returns-in-None
returns-in-None g c =
    let blocks = block_lists c.self.inside.blocks.now in
    sym (front_none blocks) ∙ sym (ap (λ o. slice_get (joined blocks) (front_place blocks o)) c.in-None.is) ∙ ap (λ (v : Window Entry). slice_get v.list v.lo) c.self.view_is
