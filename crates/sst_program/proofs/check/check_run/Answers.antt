use Rattle.std.proofs.Common.{arith}
use Rattle.std.proofs.lemmas.Result.{err_from_is_err_and}
use Rattle.sst_program.proofs.TableFiles.TableFaults.{counts_late}
use Rattle.sst_program.proofs.check.check_run.Goals as goal

pub returns-in_err-entries-clause-exact : goal.returns-in_err-entries-clause-exact
returns-in_err-entries-clause-exact g c =
    let f = c.in_ok-check_run_filter.ensures in
    let i = c.in_ok-index.ensures in
    let e = c.in_err-entries.ensures in
    let r = err_from_is_err_and c.from_residual-in_err-entries.result c.from_residual-in_err-entries.ensures.1 in
    rw (r.1, r.2) (counts_late _ _ _ _ _ _ _ c.args.handles.now c.in_ok-index.index.items _ f.source.same i.source.same f.exact i.exact (λ less. omega (arith, less, f.source.failures_grow, i.source.failures_grow)) (λ t. i.source.kept (f.source.kept t)) e.exact)
