use Rattle.std.proofs.Common.{map, subst}
use Rattle.std.proofs.lemmas.Result.{err_from_is_err_and}
use Rattle.sstable_blocks.specs.Run.{form}
use Rattle.sstable_blocks.specs.RunLaws.{refusal_on}
use Rattle.sstable_blocks.specs.Writing.{IsWriteRefusal}
use Rattle.sst_parts.proofs.Writing.Copies.{adds_to, block_fits, cut_more, writing_of}
use Rattle.sst_parts.specs.PartWriting.{AddsTo, NextFits, PartWriting}
use Rattle.sst_parts.proofs.writer.PartWriter.add_block.Goals as goal

pub invariant_of-result : goal.invariant_of-result
invariant_of-result g c = cut_more c.self.inside.core c.in_ok-core.core (map g.T.AsEntry.entry c.args.items.now) c.self.invariant c.in_ok-core.ensures.added

pub returns-clause-added : goal.returns-clause-added
returns-clause-added g c =
    let items = map g.T.AsEntry.entry c.args.items.now in
    subst (λ (v : PartWriting g.row.W.Denot). AddsTo v (writing_of c.in_ok-core.core) items) c.self.view_is (adds_to c.self.inside.core c.in_ok-core.core items c.in_ok-core.ensures.added)

pub returns-in_err-core-clause-cause : goal.returns-in_err-core-clause-cause
returns-in_err-core-clause-cause g c =
    let i = c.self.inside in
    let items = map g.T.AsEntry.entry c.args.items.now in
    let f = form g.H.BlockHash.hash64 g.H.BlockHash.hash128 i.core.config in
    let r = err_from_is_err_and c.from_residual.result c.from_residual.ensures.1 in
    let wrong = refusal_on _ (NextFits f (writing_of i.core) items → ⊥) _ c.in_err-core.ensures.cause (λ bad fits. bad (block_fits f i.core c.self.invariant.made items fits)) in
    rw (r.1, r.2) (subst (λ (v : PartWriting g.row.W.Denot). IsWriteRefusal (NextFits (form g.H.BlockHash.hash64 g.H.BlockHash.hash128 v.config) v items → ⊥) c.in_err-core.field-0.0) c.self.view_is wrong)
