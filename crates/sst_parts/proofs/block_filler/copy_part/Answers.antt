use Rattle.std.proofs.lemmas.Result.{IfOk-weaker}
use Rattle.sstable_blocks.specs.RunReading.{hashes}
use Rattle.sst_parts.proofs.Merged.Held.{part_added}
use Rattle.std.proofs.Common.{inr}
use Rattle.sst_parts.proofs.Merged.Faults.{fault_of}
use Rattle.sst_parts.specs.PartMerges.{PartRefused}
use Rattle.sst_parts.proofs.block_filler.copy_part.Goals as goal

pub returns-clause-added : goal.returns-clause-added
returns-clause-added g c =
    let h = hashes g.H.BlockHash.hash64 g.H.BlockHash.hash128 in
    IfOk-weaker c.add_part.result _ _ (λ w k blocks is. part_added h c.args.copier w c.args.part.now c.args.end.now blocks k is) c.add_part.ensures.added

pub returns-clause-cause : goal.returns-clause-cause
returns-clause-cause g c = λ named.
    let h = hashes g.H.BlockHash.hash64 g.H.BlockHash.hash128 in
    let w = c.args.copier in
    fault_of c.add_part.result (g.W.Output.never_fails w.writer) _ (PartRefused h w c.args.part.now c.args.end.now) c.add_part.ensures.failed (λ e t. inr t) c.add_part.ensures.cause
