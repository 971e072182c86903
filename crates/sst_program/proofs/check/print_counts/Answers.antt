use Rattle.std.proofs.lemmas.Result.{err_from_is_err_and}
use Rattle.sst_program.specs.TableReads.{run_counts}
use Rattle.sst_program.proofs.TableFiles.TableFaults.{around}
use Rattle.sst_program.proofs.check.print_counts.Goals as goal

pub returns-in_err-blocks-clause-io : goal.returns-in_err-blocks-clause-io
returns-in_err-blocks-clause-io g c =
    let r = err_from_is_err_and c.from_residual.result c.from_residual.ensures.1 in
    rw (r.1, r.2) (around _ _ _ _ (λ all. run_counts all c.args.handles.now) c.in_err-blocks.ensures.source.io c.in_err-blocks.ensures.exact)
