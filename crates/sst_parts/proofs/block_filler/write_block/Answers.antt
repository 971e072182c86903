use Rattle.std.proofs.Common.{List, map-id, subst, sym, inr}
use Rattle.std.proofs.lemmas.Result.{IfOk-weaker}
use Rattle.sstable_blocks.specs.Prelude.{Entry}
use Rattle.sstable_blocks.specs.RunReading.{hashes}
use Rattle.sst_parts.specs.PartCopies.{WritesBlock, BlockFits}
use Rattle.sst_parts.proofs.Merged.Held.{block_added}
use Rattle.sst_parts.proofs.Merged.Faults.{fault_of}
use Rattle.sst_parts.specs.PartMerges.{BlockRefused, copier_form}
use Rattle.sst_parts.proofs.block_filler.write_block.Goals as goal

pub returns-clause-added : goal.returns-clause-added
returns-clause-added g c =
    let h = hashes g.H.BlockHash.hash64 g.H.BlockHash.hash128 in
    let block = c.args.block.now in
    IfOk-weaker c.add_block.result _ _ (λ w k. block_added h c.args.copier w block (subst (λ (xs : List Entry). WritesBlock c.args.copier w xs) (map-id block) k)) c.add_block.ensures.added

pub returns-clause-cause : goal.returns-clause-cause
returns-clause-cause g c =
    let h = hashes g.H.BlockHash.hash64 g.H.BlockHash.hash128 in
    let block = c.args.block.now in
    let w = c.args.copier in
    fault_of c.add_block.result (g.W.Output.never_fails w.writer) _ (BlockRefused h w block) c.add_block.ensures.failed
    (λ e t. inr (t.0, λ fits. t.1 (subst (λ (xs : List Entry). BlockFits (copier_form h w) w xs) (sym (map-id block)) fits))) c.add_block.ensures.cause
