use Rattle.std.proofs.Common.{arith}
use Rattle.std.proofs.lemmas.Result.{err_from_is_err_and}
use Rattle.sst_parts.proofs.Reading.OpenParts.{footer_refused, opened, run_refused}
use Rattle.sstable_blocks.specs.RunReading.{hashes}
use Rattle.sst_parts.proofs.part.open_part.Goals as goal

pub returns-in_err-handles-clause-refused : goal.returns-in_err-handles-clause-refused
returns-in_err-handles-clause-refused g c =
    let r = err_from_is_err_and c.from_residual.result c.from_residual.ensures.1 in
    rw (r.1, r.2) (footer_refused (hashes g.H.BlockHash.hash64 g.H.BlockHash.hash128) c.args.part.now _ _ _ _ c.in_err-handles.ensures.exact)

pub returns-in_err-run-clause-refused : goal.returns-in_err-run-clause-refused
returns-in_err-run-clause-refused g c =
    let p = c.in_ok-handles.ensures in
    let r = err_from_is_err_and c.from_residual-in_err-run.result c.from_residual-in_err-run.ensures.1 in
    rw (r.1, r.2) (run_refused (hashes g.H.BlockHash.hash64 g.H.BlockHash.hash128) c.args.part.now _ _ _ _ _ _ _ _ p.source.same (λ less. omega (arith, less, p.source.failures_grow)) p.source.kept p.exact c.in_err-run.ensures.exact)

pub returns-clause-opened : goal.returns-clause-opened
returns-clause-opened g c =
    let p = c.in_ok-handles.ensures in
    let o = c.in_ok-run.ensures in
    opened (hashes g.H.BlockHash.hash64 g.H.BlockHash.hash128) c.args.part.now _ _ _ _ p.source.same p.inside p.exact o.handles o.kept
