use Rattle.std.proofs.Common.{◌≡◌, List, ℕ, arith}
use Rattle.std.proofs.lemmas.Result.{err_from_is_err_and}
use Rattle.sst_parts.specs.PartChecks.{check_bytes, check_part}
use Rattle.sst_parts.proofs.Checks.PartCheckSteps.{part_by}
use Rattle.sstable_blocks.specs.RunReading.{hashes, range_at}
use Rattle.sstable_blocks.specs.WalkLaws.{reads_fail, reads_on}
use Rattle.sst_parts.proofs.checking.check_part.Goals as goal

pub returns-in_err-file-clause-exact : goal.returns-in_err-file-clause-exact
returns-in_err-file-clause-exact g c =
    let k = hashes g.H.BlockHash.hash64 g.H.BlockHash.hash128 in
    let at : c.args.handle.offset ≡ c.args.passed.offset = omega arith in
    let r = err_from_is_err_and c.from_residual.result c.from_residual.ensures.1 in
    rw (r.1, r.2) (reads_fail {X = List ℕ} (λ xs. xs) (check_bytes k c.args.passed c.args.handle) (λ all. range_at all c.as_ref.result.now) (λ all. check_part k all c.args.passed c.args.handle)
    (part_by k c.args.passed c.args.handle c.as_ref.result.now at c.as_ref.ensures) _ _ _ _ c.in_err-file.ensures.range)

pub returns-clause-exact : goal.returns-clause-exact
returns-clause-exact g c =
    let k = hashes g.H.BlockHash.hash64 g.H.BlockHash.hash128 in
    let at : c.args.handle.offset ≡ c.args.passed.offset = omega arith in
    reads_on {X = List ℕ} (λ xs. xs) (check_bytes k c.args.passed c.args.handle) (λ all. range_at all c.as_ref.result.now) (λ all. check_part k all c.args.passed c.args.handle)
    (part_by k c.args.passed c.args.handle c.as_ref.result.now at c.as_ref.ensures) _ _ _ _ _ _ c.in_ok-file.ensures.range c.check_bytes.ensures.exact
