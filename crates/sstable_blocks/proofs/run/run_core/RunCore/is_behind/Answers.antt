use Rattle.std.proofs.Common.{rules, ◌≡◌, refl, ap, sym, ◌∙◌, subst, length, List, ◌-◌, IsTrue, ◌↔◌}
use Rattle.std.specs.List.{slice_get}
use Rattle.std.specs.Ordering.{nat_cmp, ordering_then}
use Rattle.std.specs.Cmp.Lexicographic.{slice_cmp}
use Rattle.sst_block_core.specs.Handles.{Handle}
use Rattle.sstable_blocks.specs.Run.{form}
use Rattle.sstable_blocks.specs.Writing.{Written, FollowsLast}
use Rattle.sstable_blocks.proofs.Layouts.Kept.{no_last, is_behind}
use Rattle.sstable_blocks.proofs.run.run_core.RunCore.is_behind.Goals as goal

pub returns-in-None-clause-behind : goal.returns-in-None-clause-behind
returns-in-None-clause-behind g c =
    let f = form g.H.BlockHash.hash64 g.H.BlockHash.hash128 c.self.inside.config in
    let hs = c.deref.ensures.value ∙ c.self.invariant.handles in
    let none = ap (λ (xs : List Handle). slice_get xs (length xs - 1)) (sym hs) ∙ sym c.in-None.ensures.value in
    let here = no_last f c.self.inside.accepted c.args.item.now none in
    ((λ e. subst (λ (w : Written). FollowsLast w.blocks c.args.item.now) c.self.view_is here), (λ h. refl))

pub returns-in-Some-clause-behind : goal.returns-in-Some-clause-behind
returns-in-Some-clause-behind g c =
    let f = form g.H.BlockHash.hash64 g.H.BlockHash.hash128 c.self.inside.config in
    let hs = c.deref.ensures.value ∙ c.self.invariant.handles in
    let last = ap (λ (xs : List Handle). slice_get xs (length xs - 1)) (sym hs) ∙ sym c.in-Some.ensures.value in
    let o : c.then.result ≡ ordering_then (slice_cmp nat_cmp c.args.item.now.key.user_key c.in-Some.handle.now.end_key) (nat_cmp c.in-Some.handle.now.seqno c.args.item.now.key.seqno) = search rules in
    let here = is_behind f c.self.inside.accepted c.args.item.now c.in-Some.handle.now c.then.result c.self.invariant.all_some last o in
    subst (λ (w : Written). IsTrue c.is_ge.result ↔ FollowsLast w.blocks c.args.item.now) c.self.view_is (subst (λ b. IsTrue b ↔ FollowsLast c.self.inside.accepted c.args.item.now) (sym c.is_ge.ensures) here)
