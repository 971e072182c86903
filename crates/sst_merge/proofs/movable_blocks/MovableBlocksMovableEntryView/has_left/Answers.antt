use Rattle.std.proofs.Common.{◌≡◌, ◌<◌, Some, arith, ap, false, nat_eq, nat_lt, subst, sym, ◌∙◌}
use Rattle.std.proofs.lemmas.Bool.{lt-ltb}
use Rattle.std.proofs.lemmas.Bool.Decides.{nat_tests}
use Rattle.sstable_blocks.specs.Prelude.{Entry, Window, some_left}
use Rattle.sst_merge.specs.MovableBlocks.{HoldsBack, HoldsFront, back_place, block_lists, front_place}
use Rattle.sst_merge.proofs.Moving.BlockEnds.{left_later, none_at_end, none_earlier}
use Rattle.sst_merge.proofs.movable_blocks.MovableBlocksMovableEntryView.has_left.Goals as goal

pub returns-then-front-back : goal.returns-then-front-back
returns-then-front-back g c =
    let blocks = block_lists c.self.inside.blocks.now in
    let f = c.in-Some-Some.front in
    let b = c.in-Some-Some.back in
    let hf = subst (HoldsFront blocks) c.in-Some-Some.is-0 c.self.invariant.front_holds in
    let hb = subst (HoldsBack blocks) c.in-Some-Some.is-1 c.self.invariant.back_holds in
    lt-ltb f.block b.block c.if-front-back.true ∙ sym (left_later blocks f b hf hb c.if-front-back.true)
    ∙ sym (ap (λ o. nat_lt (front_place blocks o) (back_place blocks c.self.inside.back)) c.in-Some-Some.is-0 ∙ ap (λ o. nat_lt (front_place blocks (Some f)) (back_place blocks o)) c.in-Some-Some.is-1)
    ∙ ap (λ (v : Window Entry). some_left v) c.self.view_is

pub returns-else-front-back-2 : goal.returns-else-front-back-2
returns-else-front-back-2 g c =
    let blocks = block_lists c.self.inside.blocks.now in
    let f = c.in-Some-Some.front in
    let b = c.in-Some-Some.back in
    let hf = subst (HoldsFront blocks) c.in-Some-Some.is-0 c.self.invariant.front_holds in
    let hb = subst (HoldsBack blocks) c.in-Some-Some.is-1 c.self.invariant.back_holds in
    let more : b.block < f.block = omega (arith, c.if-front-back.false, c.if-front-back-2.false) in
    let differ : nat_eq f.block b.block ≡ false = grind (arith, nat_tests, more) in
    differ ∙ sym (none_earlier blocks f b hf hb more)
    ∙ sym (ap (λ o. nat_lt (front_place blocks o) (back_place blocks c.self.inside.back)) c.in-Some-Some.is-0 ∙ ap (λ o. nat_lt (front_place blocks (Some f)) (back_place blocks o)) c.in-Some-Some.is-1)
    ∙ ap (λ (v : Window Entry). some_left v) c.self.view_is

pub returns-in_default-2 : goal.returns-in_default-2
returns-in_default-2 g c =
    let blocks = block_lists c.self.inside.blocks.now in
    sym (none_at_end blocks c.self.inside.back c.self.invariant.back_holds)
    ∙ sym (ap (λ o. nat_lt (front_place blocks o) (back_place blocks c.self.inside.back)) c.in_default.is-0)
    ∙ ap (λ (v : Window Entry). some_left v) c.self.view_is
