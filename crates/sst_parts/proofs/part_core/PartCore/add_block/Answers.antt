use Rattle.std.proofs.Common.{◌≡◌, ◌-◌, ◌++◌, ◌∷◌, [], ℕ, map, List, ap, sym, ◌∙◌, subst}
use Rattle.std.proofs.lemmas.Result.{err_from_is_err_and}
use Rattle.sstable_blocks.specs.Prelude.{Entry}
use Rattle.sst_parts.proofs.Writing.Blocks.{follows_next, full_some, open_next}
use Rattle.sst_parts.specs.PartCopies.{BlockFits, ClosedEnds, PartsSoFar, known_parts, known_so_far}
use Rattle.sst_parts.specs.PartWriting.{data_len, is_full}
use Rattle.sstable_blocks.specs.Run.{form}
use Rattle.sstable_blocks.specs.RunLaws.{refusal_on}
use Rattle.sstable_blocks.specs.Writing.{Follows}
use Rattle.sst_parts.proofs.part_core.PartCore.add_block.Goals as goal

pub next_part-requires-clause-some : goal.next_part-requires-clause-some
next_part-requires-clause-some g c = λ full.
    let i = c.self.inside in
    let is = subst (λ (v : PartsSoFar g.row.W.Denot). c.is_full-full.result ≡ is_full v.sizes v.current) (sym c.self.view_is) c.is_full-full.ensures in
    full_some i.sizes i.run.blocks (sym is ∙ full)

pub returns-in_err-closed-clause-cause : goal.returns-in_err-closed-clause-cause
returns-in_err-closed-clause-cause g c =
    let i = c.self.inside in
    let items = map g.T.AsEntry.entry c.args.items.now in
    let r = err_from_is_err_and c.from_residual-in_err-closed.result c.from_residual-in_err-closed.ensures.1 in
    let fits : BlockFits (form g.H.BlockHash.hash64 g.H.BlockHash.hash128 c.args.self.config) c.args.self items → ClosedEnds (form g.H.BlockHash.hash64 g.H.BlockHash.hash128 i.closed.config) i.closed.parts i.run.blocks = λ n.
    subst (λ (v : PartsSoFar g.row.W.Denot). ClosedEnds (form g.H.BlockHash.hash64 g.H.BlockHash.hash128 v.config) v.closed v.current) (sym c.self.view_is) (n.closes (sym c.is_full-full.ensures ∙ c.in_err-closed.ensures.full))
    in
    rw (r.1, r.2) (refusal_on _ _ _ c.in_err-closed.ensures.cause (λ no n. no (fits n)))

pub add_block-requires : goal.add_block-requires
add_block-requires g c =
    let i = c.self.inside in
    let items = map g.T.AsEntry.entry c.args.items.now in
    let follows = subst (λ (v : PartsSoFar g.row.W.Denot). Follows (known_so_far v) items) (sym c.self.view_is) c.requires in
    subst (λ bs. Follows bs items) (sym c.in_ok-closed.ensures.next.blocks) (follows_next c.is_full-full.result (known_parts i.closed.parts) i.run.blocks items follows)

pub invariant_of-result : goal.invariant_of-result
invariant_of-result g c =
    let i = c.self.inside in
    let items = map g.T.AsEntry.entry c.args.items.now in
    let full = c.is_full-full.result in
    let follows = subst (λ (v : PartsSoFar g.row.W.Denot). Follows (known_so_far v) items) (sym c.self.view_is) c.requires in
    let a = c.in_ok-add_block.ensures in
    let blocks = c.push_chosen.ensures ∙ ap (λ (bs : List (List Entry)). bs ++ items ∷ []) c.blocks_before-blocks.ensures in
    let left = c.spend.ensures ∙ ap (λ (n : ℕ). n - data_len items) c.left_before-left.ensures in
    open_next i.closed c.in_ok-closed.closed i.run c.in_ok-closed.run' c.add_block.new.self i.sizes full i.blocks c.push_chosen.new.self i.end i.left c.spend.result items c.in_ok-last.last
    c.self.invariant c.in_ok-closed.ensures.next a.run a.refusal a.blocks follows c.in_ok-last.ensures.ok blocks left
