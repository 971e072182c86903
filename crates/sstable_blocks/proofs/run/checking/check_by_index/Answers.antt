use Rattle.std.proofs.Common.{arith}
use Rattle.std.proofs.lemmas.Result.{err_from_is_err_and}
use Rattle.sstable_blocks.specs.RunReading.{hashes}
use Rattle.sstable_blocks.proofs.Checks.RunCheckSteps.{index_fail}
use Rattle.sstable_blocks.specs.FrameCounts.{blocks_frames}
use Rattle.sstable_blocks.specs.RunChecks.{none_passed}
use Rattle.sstable_blocks.specs.RunReading.{handles_at}
use Rattle.sstable_blocks.specs.FrameCountLaws.{goes_on, stops, whole}
use Rattle.sstable_blocks.proofs.run.checking.check_by_index.Goals as goal

pub returns-in_err-passed-clause-exact : goal.returns-in_err-passed-clause-exact
returns-in_err-passed-clause-exact g c =
    let i = c.in_ok-index.ensures in
    let r = err_from_is_err_and c.from_residual-in_err-passed.result c.from_residual-in_err-passed.ensures.1 in
    rw (r.1, r.2) (index_fail (hashes g.H.BlockHash.hash64 g.H.BlockHash.hash128) c.args.filter.now _ _ _ _ _ _ c.args.index.now _ _ i.source.same (λ less. omega (arith, less, i.source.failures_grow)) i.source.kept i.exact c.in_err-passed.ensures.exact)

pub returns-in_err-index-clause-asked : goal.returns-in_err-index-clause-asked
returns-in_err-index-clause-asked g c =
    let h = (hashes g.H.BlockHash.hash64 g.H.BlockHash.hash128) in
    let e = c.in_err-index.ensures in
    let r = err_from_is_err_and c.from_residual.result c.from_residual.ensures.1 in
    rw (r.1, r.2) (stops _ _ _ _ _ 1 _ _ (λ all. handles_at h all c.args.index.now) (λ all hs. blocks_frames h all c.args.filter.now none_passed hs) e.source.asks e.exact)

pub returns-in_err-passed-clause-asked : goal.returns-in_err-passed-clause-asked
returns-in_err-passed-clause-asked g c =
    let h = (hashes g.H.BlockHash.hash64 g.H.BlockHash.hash128) in
    let i = c.in_ok-index.ensures in
    let e = c.in_err-passed.ensures in
    let r = err_from_is_err_and c.from_residual-in_err-passed.result c.from_residual-in_err-passed.ensures.1 in
    rw (r.1, r.2) (goes_on _ _ _ _ _ _ _ _ 1 _ _ (λ all. handles_at h all c.args.index.now) (λ all hs. blocks_frames h all c.args.filter.now none_passed hs) i.source.same i.source.asks i.source.failures_grow e.source.failures_grow i.exact e.asked)

pub returns-clause-asked : goal.returns-clause-asked
returns-clause-asked g c =
    let h = (hashes g.H.BlockHash.hash64 g.H.BlockHash.hash128) in
    let i = c.in_ok-index.ensures in
    let e = c.in_ok-passed.ensures in
    goes_on _ _ _ _ _ _ _ _ 1 _ _ (λ all. handles_at h all c.args.index.now) (λ all hs. blocks_frames h all c.args.filter.now none_passed hs) i.source.same i.source.asks i.source.failures_grow e.source.failures_grow i.exact (whole _ _ _ _ _ _ _ e.asked)
