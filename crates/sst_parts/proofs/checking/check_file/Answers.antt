use Rattle.std.proofs.Common.{List, ℕ, ap, arith}
use Rattle.std.proofs.lemmas.Result.{err_from_is_err_and}
use Rattle.sstable_blocks.specs.RunReading.{hashes}
use Rattle.sstable_blocks.specs.Sources.{SourceParts}
use Rattle.sst_parts.proofs.Checks.PartCheckSteps.{file_passes, file_refused}
use Rattle.sst_parts.proofs.checking.check_file.Goals as goal

pub returns-in_err-handles-clause-exact : goal.returns-in_err-handles-clause-exact
returns-in_err-handles-clause-exact g c =
    let r = err_from_is_err_and c.from_residual.result c.from_residual.ensures.1 in
    rw (r.1, r.2) (file_refused (hashes g.H.BlockHash.hash64 g.H.BlockHash.hash128) c.args.file _ (ap (λ (s : SourceParts (List ℕ)). s.inner) c.new-source.ensures) _ _ (λ less. omega (arith, less)) _ c.in_err-handles.ensures.exact)

pub returns-clause-exact : goal.returns-clause-exact
returns-clause-exact g c =
    file_passes (hashes g.H.BlockHash.hash64 g.H.BlockHash.hash128) c.args.file _ (ap (λ (s : SourceParts (List ℕ)). s.inner) c.new-source.ensures) _ _ (λ less. omega (arith, less)) _ _ _ c.in_ok-handles.ensures.source.same c.in_ok-handles.ensures.exact c.check.ensures.exact
