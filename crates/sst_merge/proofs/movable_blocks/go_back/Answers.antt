use Rattle.std.proofs.Common.{◌≡◌, ◌+◌, ◌-◌, Some, ap, arith, refl, subst, sym, ◌∙◌}
use Rattle.sstable_blocks.specs.Blocks.{joined}
use Rattle.sst_merge.specs.Movable.{item_before}
use Rattle.sst_merge.specs.MovableBlocks.{HoldsBack, IsBackIn, back_place, block_lists}
use Rattle.sst_merge.specs.declared.movable_blocks.Open.{Open}
use Rattle.sst_merge.proofs.Moving.BlockEnds.{back_ends, back_item, back_more, back_some}
use Rattle.sst_merge.proofs.movable_blocks.go_back.Goals as goal

pub returns-in-Some-next_back-clause-holds : goal.returns-in-Some-next_back-clause-holds
returns-in-Some-next_back-clause-holds g c =
    let blocks = block_lists c.args.blocks.now in
    let h : IsBackIn blocks c.in-Some.open = subst (HoldsBack blocks) c.in-Some.is c.requires.held in
    let new : Open = record { block = c.in-Some.open.block; at = c.in-Some.open.at - 1; views = c.next_back.new.self; held = c.in-Some-next_back.last } in
    let some = back_some blocks c.in-Some.open c.in-Some-next_back.last c.next_back.new.self h c.in-Some-next_back.ensures.steps in
    let at : c.in-Some.open.at - 1 + 1 ≡ c.in-Some.open.at = omega (arith, some) in
    back_more blocks c.in-Some.open c.in-Some-next_back.last c.next_back.new.self new h c.in-Some-next_back.ensures.steps refl at refl refl

pub returns-in-Some-next_back-clause-item : goal.returns-in-Some-next_back-clause-item
returns-in-Some-next_back-clause-item g c =
    let blocks = block_lists c.args.blocks.now in
    let h : IsBackIn blocks c.in-Some.open = subst (HoldsBack blocks) c.in-Some.is c.requires.held in
    ap Some c.again-held.ensures ∙ sym (back_item blocks c.in-Some.open h) ∙ sym (ap (λ o. item_before (joined blocks) (back_place blocks o)) c.in-Some.is)

pub returns-in-None-clause-item : goal.returns-in-None-clause-item
returns-in-None-clause-item g c =
    let blocks = block_lists c.args.blocks.now in
    let h : IsBackIn blocks c.in-Some.open = subst (HoldsBack blocks) c.in-Some.is c.requires.held in
    ap Some c.again-held.ensures ∙ sym (back_item blocks c.in-Some.open h) ∙ sym (ap (λ o. item_before (joined blocks) (back_place blocks o)) c.in-Some.is)

pub returns-in-None-clause-place : goal.returns-in-None-clause-place
returns-in-None-clause-place g c =
    let blocks = block_lists c.args.blocks.now in
    let h : IsBackIn blocks c.in-Some.open = subst (HoldsBack blocks) c.in-Some.is c.requires.held in
    ap (λ n. n + 1) c.open_back.ensures.place ∙ back_ends blocks c.in-Some.open h c.in-None.ensures.steps.0 ∙ sym (ap (back_place blocks) c.in-Some.is)
