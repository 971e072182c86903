use Rattle.std.proofs.lemmas.Result.{err_from_is_err_and}
use Rattle.sst_parts.specs.PartScans.{near_left}
use Rattle.sst_parts.proofs.Scanning.PartEnds.{out_error}
use Rattle.sstable_blocks.specs.BlockReading.{seen_from}
use Rattle.sstable_blocks.specs.RunReading.{hashes}
use Rattle.sst_parts.proofs.scan.step.Goals as goal

pub returns-in_err-entry-clause-exact : goal.returns-in_err-entry-clause-exact
returns-in_err-entry-clause-exact g c =
    let h = hashes g.H.BlockHash.hash64 g.H.BlockHash.hash128 in
    let r = err_from_is_err_and c.from_residual.result c.from_residual.ensures.1 in
    rw (r.1, r.2) (out_error _ _ (λ all. near_left h all c.args.back c.args.near.now c.args.unreached.now.handles) (seen_from c.args.back c.args.far.now.reads) _ _ c.in_err-entry.ensures.exact)
