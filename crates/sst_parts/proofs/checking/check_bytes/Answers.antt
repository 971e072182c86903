use Rattle.std.proofs.Common.{Some, refl, sym, ap, ◌∙◌}
use Rattle.std.proofs.lemmas.Result.{err_from_is_err_and}
use Rattle.sstable_blocks.specs.Results.{◌>>=◌}
use Rattle.sst_parts.specs.PartChecks.{check_bytes, check_ends, check_file}
use Rattle.sstable_blocks.specs.FooterLaws.{gives_same}
use Rattle.sstable_blocks.specs.RunReading.{hashes}
use Rattle.sstable_blocks.specs.WalkLaws.{reads_fail}
use Rattle.sstable_blocks.specs.declared.run.checking.RunSummary.{RunSummary}
use Rattle.sst_parts.proofs.checking.check_bytes.Goals as goal

pub returns-in_err-run-clause-exact : goal.returns-in_err-run-clause-exact
returns-in_err-run-clause-exact g c =
    let k = hashes g.H.BlockHash.hash64 g.H.BlockHash.hash128 in
    let r = err_from_is_err_and c.from_residual.result c.from_residual.ensures.1 in
    rw (r.1, r.2) (reads_fail {X = RunSummary} (λ s. s) (check_ends c.args.passed c.args.handle) (check_file k) (check_bytes k c.args.passed c.args.handle) (λ all. refl) (Some c.args.file) _ _ _ c.in_err-run.ensures.exact)

pub returns-clause-exact : goal.returns-clause-exact
returns-clause-exact g c =
    gives_same _ _ c.pass_run.result _ (ap (λ q. q >>= check_ends c.args.passed c.args.handle) c.in_ok-run.ensures.exact ∙ sym c.pass_run.ensures.exact)
