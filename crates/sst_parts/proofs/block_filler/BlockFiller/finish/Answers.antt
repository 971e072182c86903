use Rattle.std.proofs.Common.{[], List, IfOk, subst}
use Rattle.std.proofs.lemmas.Result.{IfErr-weaker, IfOk-weaker}
use Rattle.sstable_blocks.specs.Prelude.{Entry}
use Rattle.sstable_blocks.specs.RunReading.{hashes}
use Rattle.sst_parts.specs.PartCopies.{PartsSoFar}
use Rattle.sst_parts.specs.PartMerges.{AddsEntries, decoded, BlockRefused, IsFault}
use Rattle.sst_parts.proofs.Merged.Held.{block_written}
use Rattle.sst_parts.proofs.Merged.Faults.{refuses_block}
use Rattle.sst_parts.proofs.block_filler.BlockFiller.finish.Goals as goal

pub returns-clause-added : goal.returns-clause-added
returns-clause-added g c =
    let h = hashes g.H.BlockHash.hash64 g.H.BlockHash.hash128 in
    let i = c.self.inside in
    let written = subst (λ (xs : List Entry). IfOk c.write_block.result (λ w. AddsEntries h i.copier w (decoded xs))) c.deref.ensures.value c.write_block.ensures.added in
    subst (λ (v : PartsSoFar g.row.W.Denot). IfOk c.write_block.result (λ w. AddsEntries h v w [])) c.self.view_is
    (IfOk-weaker c.write_block.result _ _ (λ w k. block_written h i.copier w i.block.items k) written)

pub returns-clause-cause : goal.returns-clause-cause
returns-clause-cause g c =
    let h = hashes g.H.BlockHash.hash64 g.H.BlockHash.hash128 in
    let i = c.self.inside in
    IfErr-weaker c.write_block.result _ _ (λ e f. refuses_block g.W.Output.never_fails h i.copier c.args.self i.block.items e c.self.view_is (subst (λ (xs : List Entry). IsFault (g.W.Output.never_fails i.copier.writer) (BlockRefused h i.copier xs) e) c.deref.ensures.value f)) c.write_block.ensures.cause
