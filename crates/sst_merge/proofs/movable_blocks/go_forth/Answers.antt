use Rattle.std.proofs.Common.{◌+◌, Some, slice_get, ap, refl, subst, sym, ◌∙◌}
use Rattle.sstable_blocks.specs.Blocks.{joined}
use Rattle.sst_merge.specs.MovableBlocks.{HoldsFront, IsFrontIn, block_lists, front_place}
use Rattle.sst_merge.specs.declared.movable_blocks.Open.{Open}
use Rattle.sst_merge.proofs.Moving.BlockEnds.{front_ends, front_item, front_more}
use Rattle.sst_merge.proofs.movable_blocks.go_forth.Goals as goal

pub returns-in-Some-next-clause-holds : goal.returns-in-Some-next-clause-holds
returns-in-Some-next-clause-holds g c =
    let blocks = block_lists c.args.blocks.now in
    let h : IsFrontIn blocks c.in-Some.open = subst (HoldsFront blocks) c.in-Some.is c.requires.held in
    let new : Open = record { block = c.in-Some.open.block; at = c.in-Some.open.at + 1; views = c.next.new.self; held = c.in-Some-next.next } in
    front_more blocks c.in-Some.open c.in-Some-next.next c.next.new.self new h c.in-Some-next.ensures.steps refl refl refl refl

pub returns-in-Some-next-clause-item : goal.returns-in-Some-next-clause-item
returns-in-Some-next-clause-item g c =
    let blocks = block_lists c.args.blocks.now in
    let h : IsFrontIn blocks c.in-Some.open = subst (HoldsFront blocks) c.in-Some.is c.requires.held in
    ap Some c.again-held.ensures ∙ sym (front_item blocks c.in-Some.open h) ∙ sym (ap (λ o. slice_get (joined blocks) (front_place blocks o)) c.in-Some.is)

pub returns-in-None-clause-item : goal.returns-in-None-clause-item
returns-in-None-clause-item g c =
    let blocks = block_lists c.args.blocks.now in
    let h : IsFrontIn blocks c.in-Some.open = subst (HoldsFront blocks) c.in-Some.is c.requires.held in
    ap Some c.again-held.ensures ∙ sym (front_item blocks c.in-Some.open h) ∙ sym (ap (λ o. slice_get (joined blocks) (front_place blocks o)) c.in-Some.is)

pub returns-in-None-clause-place : goal.returns-in-None-clause-place
returns-in-None-clause-place g c =
    let blocks = block_lists c.args.blocks.now in
    let h : IsFrontIn blocks c.in-Some.open = subst (HoldsFront blocks) c.in-Some.is c.requires.held in
    c.open_front.ensures.place ∙ front_ends blocks c.in-Some.open h c.in-None.ensures.steps.0 ∙ sym (ap (λ o. front_place blocks o + 1) c.in-Some.is)
