use Rattle.std.proofs.Common.{◌≡◌, List, ℕ, ap, arith, ◌∙◌}
use Rattle.std.proofs.lemmas.Result.{err_from_is_err_and}
use Rattle.sst_parts.proofs.Checks.PartCheckSteps.{lent_refused}
use Rattle.sstable_blocks.specs.RunReading.{hashes}
use Rattle.sstable_blocks.specs.Sources.{SourceParts}
use Rattle.sst_parts.proofs.parted_ref.summary_in.Goals as goal

pub returns-in_err-table-clause-exact : goal.returns-in_err-table-clause-exact
returns-in_err-table-clause-exact g c =
    let r = err_from_is_err_and c.from_residual-in_err-table.result c.from_residual-in_err-table.ensures.1 in
    let of : c.new-source.result.inner ≡ c.args.bytes.now = ap (λ (s : SourceParts (List ℕ)). s.inner) c.new-source.ensures ∙ c.in_ok-clone.ensures.cases in
    rw (r.1, r.2) (lent_refused (hashes g.H.BlockHash.hash64 g.H.BlockHash.hash128) c.args.bytes.now c.new-source.result.inner of c.args.top.now _ _ _ (λ less. omega (arith, less)) c.in_err-table.ensures.exact)
