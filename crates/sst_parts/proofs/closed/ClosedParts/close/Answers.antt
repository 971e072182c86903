use Rattle.std.proofs.Common.{◌≡◌, ◌+◌, ℕ, Option, List, ap, ◌∙◌, sym, subst}
use Rattle.sst_parts.proofs.Writing.Closings.{fits_next, one_closed}
use Rattle.sst_parts.specs.PartCopies.{ClosedEnds, ClosedView}
use Rattle.sst_parts.specs.PartWriting.{AppendsPart, PartFileFits}
use Rattle.std.proofs.lemmas.Result.{err_from_is_err_and}
use Rattle.sstable_blocks.specs.Run.{form}
use Rattle.sstable_blocks.specs.RunLaws.{refusal_on}
use Rattle.sstable_blocks.specs.Writing.{IsWriteRefusal}
use Rattle.sstable_blocks.specs.declared.run.RunConfig.{RunConfig}
use Rattle.sst_parts.proofs.closed.ClosedParts.close.Goals as goal

pub invariant_of-closed : goal.invariant_of-closed
invariant_of-closed g c =
    let i = c.self.inside in
    let now = g.W.Write.contents c.in_ok-handle.writer in
    let config : c.args.run.config ≡ i.config = c.requires.joins.config ∙ sym (ap (λ (v : ClosedView). v.config) c.self.view_is) in
    let start : c.args.run.start ≡ i.after = c.requires.joins.start ∙ sym (ap (λ (v : ClosedView). v.after) c.self.view_is) in
    let part = subst (λ (k : RunConfig). AppendsPart (form g.H.BlockHash.hash64 g.H.BlockHash.hash128 k) c.args.run.blocks i.offset i.after now c.in_ok-handle.handle) config
    (subst (λ (o : Option (List ℕ)). AppendsPart (form g.H.BlockHash.hash64 g.H.BlockHash.hash128 c.args.run.config) c.args.run.blocks i.offset o now c.in_ok-handle.handle) start c.in_ok-handle.ensures.part) in
    let next = ap (λ (n : ℕ). i.offset + n) (c.from.ensures ∙ c.size.ensures) in
    rw (c.push_chosen.ensures, c.requires.blocks_are, c.of-after.ensures) (one_closed _ i.parts c.args.run.blocks i.start i.after now i.tops.items _ c.in_ok-handle.handle i.offset _ c.self.invariant part next c.in_ok-push.ensures.items)

pub returns-in_err-handle-clause-cause : goal.returns-in_err-handle-clause-cause
returns-in_err-handle-clause-cause g c =
    let i = c.self.inside in
    let f = form g.H.BlockHash.hash64 g.H.BlockHash.hash128 i.config in
    let blocks = c.args.run.blocks in
    let config : c.args.run.config ≡ i.config = c.requires.joins.config ∙ sym (ap (λ (v : ClosedView). v.config) c.self.view_is) in
    let r = err_from_is_err_and c.from_residual.result c.from_residual.ensures.1 in
    let refused = subst (λ (k : RunConfig). IsWriteRefusal (PartFileFits (form g.H.BlockHash.hash64 g.H.BlockHash.hash128 k) i.offset blocks → ⊥) c.in_err-handle.field-0.0) config c.in_err-handle.ensures.cause in
    let wrong = refusal_on _ _ _ refused (λ no ends. no (fits_next f i.parts i.start i.after i.tops.items i.offset c.self.invariant blocks ends)) in
    rw (r.1, r.2) (subst (λ (v : ClosedView). IsWriteRefusal (ClosedEnds (form g.H.BlockHash.hash64 g.H.BlockHash.hash128 v.config) v.parts blocks → ⊥) c.in_err-handle.field-0.0) c.self.view_is wrong)
