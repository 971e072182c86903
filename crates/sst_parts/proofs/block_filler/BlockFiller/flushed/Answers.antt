use Rattle.std.proofs.Common.{[], List, sym, subst}
use Rattle.sstable_blocks.specs.Prelude.{Entry}
use Rattle.sstable_blocks.specs.RunReading.{hashes}
use Rattle.sst_parts.specs.PartCopies.{PartsSoFar}
use Rattle.sst_parts.specs.PartMerges.{AddsEntries, decoded, with_block, BlockRefused, IsFault}
use Rattle.sst_parts.proofs.Merged.Held.{adds_none, block_begun, block_written}
use Rattle.std.proofs.lemmas.Result.{err_from_is_err_and}
use Rattle.sst_parts.proofs.Merged.Faults.{refuses_block}
use Rattle.sst_parts.proofs.block_filler.BlockFiller.flushed.Goals as goal

pub returns-clause-added : goal.returns-clause-added
returns-clause-added g c =
    let h = hashes g.H.BlockHash.hash64 g.H.BlockHash.hash128 in
    let i = c.self.inside in
    let w = c.in_ok-copier.copier in
    let written = subst (λ (xs : List Entry). AddsEntries h i.copier w (decoded xs)) c.deref.ensures.value c.in_ok-copier.ensures.added in
    let one = block_written h i.copier w i.block.items written in
    let two = adds_none h (with_block i.copier i.block.items) w (with_block w []) [] one (block_begun h w) in
    let done = subst (λ (xs : List Entry). AddsEntries h (with_block i.copier i.block.items) (with_block w xs) []) (sym c.clear.ensures.items) two in
    subst (λ (v : PartsSoFar g.row.W.Denot). AddsEntries h v (with_block w c.clear.new.self.items) []) c.self.view_is done

pub returns-in_err-copier-clause-cause : goal.returns-in_err-copier-clause-cause
returns-in_err-copier-clause-cause g c =
    let h = hashes g.H.BlockHash.hash64 g.H.BlockHash.hash128 in
    let i = c.self.inside in
    let e = c.in_err-copier.field-0.0 in
    let p = err_from_is_err_and c.from_residual.result c.from_residual.ensures.1 in
    let f = subst (λ (xs : List Entry). IsFault (g.W.Output.never_fails i.copier.writer) (BlockRefused h i.copier xs) e) c.deref.ensures.value c.in_err-copier.ensures.cause in
    rw (p.1, p.2) (refuses_block g.W.Output.never_fails h i.copier c.args.self i.block.items e c.self.view_is f)
