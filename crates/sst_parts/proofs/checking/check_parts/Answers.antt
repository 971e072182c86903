use Rattle.std.proofs.Common.{Ok, length, refl}
use Rattle.std.proofs.lemmas.Result.{err_from_is_err_and}
use Rattle.sst_parts.specs.PartChecks.{check_part, check_parts, no_parts}
use Rattle.sst_parts.specs.declared.checking.Passed.{Passed}
use Rattle.sstable_blocks.specs.RunReading.{hashes}
use Rattle.sstable_blocks.specs.WalkLaws.{reads_fail}
use Rattle.sstable_blocks.specs.Walks.{walked}
use Rattle.sst_parts.proofs.checking.check_parts.Goals as goal

pub returns-in_err-passed-clause-exact : goal.returns-in_err-passed-clause-exact
returns-in_err-passed-clause-exact g c =
    let k = hashes g.H.BlockHash.hash64 g.H.BlockHash.hash128 in
    let hs = c.args.index.now.items in
    let r = err_from_is_err_and c.from_residual.result c.from_residual.ensures.1 in
    rw (r.1, r.2) (reads_fail {X = Passed} (λ s. s) (λ (s : Passed). Ok (record { parts = length hs; whole = s.whole })) (λ all. walked (check_part k all) no_parts hs) (λ all. check_parts k all hs) (λ all. refl) _ _ _ _ c.in_err-passed.ensures.exact)
