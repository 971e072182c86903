use Rattle.std.proofs.Common.{◌≡◌, map, refl, sym, ◌∙◌, ap, arith, subst, [], ◌∷◌, ◌++◌}
use Rattle.sstable_blocks.specs.Run.{handle_of, form, key_hashes}
use Rattle.sst_base.specs.Key.{Key}
use Rattle.std.proofs.lemmas.Grind.{common_steps}
use Rattle.sstable_blocks.specs.Writing.{Written}
use Rattle.sstable_blocks.specs.Blocks.{joined}
use Rattle.sst_block_core.specs.Entries.{entries}
use Rattle.sst_block_core.specs.Kind.{IsOrdered, item_cmp}
use Rattle.sstable_blocks.specs.EndLaws.{back_in_order}
use Rattle.sstable_blocks.proofs.Lists.Mapped.{last_mapped}
use Rattle.sstable_blocks.proofs.Layouts.Kept.{kept_push, end_of-last, handle_is}
use Rattle.sstable_blocks.proofs.run.run_core.RunCore.add_block.Goals as goal
use Rattle.sstable_blocks.specs.RunLaws.{joined_push}

pub framed_block-requires-clause-ordered : goal.framed_block-requires-clause-ordered
framed_block-requires-clause-ordered g c =
    let items = map g.T.AsEntry.entry c.args.items.now in
    back_in_order (item_cmp entries) (joined c.args.self.now.blocks) items (subst (IsOrdered entries) (joined_push c.args.self.now.blocks items) c.requires.follows.ordered)

pub invariant_of-self-2 : goal.invariant_of-self-2
invariant_of-self-2 g c =
    let f = form g.H.BlockHash.hash64 g.H.BlockHash.hash128 c.self.inside.config in
    let entry = g.T.AsEntry.entry in
    let items = map entry c.args.items.now in
    let handle = c.in_ok-handle.handle in
    let room : c.push-room.new.self.items ≡ c.self.inside.handles.items ++ handle ∷ [] = grind (arith, common_steps) in
    let last = end_of-last items (entry c.index-items-items.result) c.requires.follows.some (last_mapped entry c.args.items.now c.index-items-items.result c.index-items-items.is) in
    let n = c.in_ok-size.ensures.ok in
    let same : c.args.self.now.blocks ≡ c.self.inside.accepted = sym (ap (λ (v : Written). v.blocks) c.self.view_is) in
    let is : handle ≡ handle_of f c.self.inside.offset items =
    c.in_ok-handle.ensures.ok ∙ handle_is f c.self.inside.offset items _ _ _ _ refl n.size (sym (ap (λ (x : Key). x.seqno) last)) (sym (ap (λ (x : Key). x.user_key) last)) in
    let hashed = map entry c.hashed_items.result.now in
    let hashes : c.push_hashes.new.hashes.items ≡ c.self.inside.hashes.items ++ key_hashes g.H.BlockHash.hash64 hashed = c.in_ok-push_hashes.ensures.ok in
    let kept = kept_push f _ _ _ _ _ _ _ hashed c.self.invariant (λ some. ap (map entry) (c.hashed_items.ensures some)) c.requires.follows.some n.valid (subst (λ xs. IsOrdered entries (joined (xs ++ items ∷ []))) same c.requires.follows.ordered) n.fits.framed is n.end (let e = n.fits.end in let k = n.end in omega arith) in
    rw (c.push_chosen.ensures, room, hashes) kept
