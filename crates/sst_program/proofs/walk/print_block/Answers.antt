use Rattle.std.proofs.lemmas.Result.{err_from_is_err_and}
use Rattle.sst_program.specs.TableReads.{block_read}
use Rattle.sst_program.proofs.TableFiles.TableFaults.{around}
use Rattle.sst_program.proofs.walk.print_block.Goals as goal

pub returns-in_err-block-clause-io : goal.returns-in_err-block-clause-io
returns-in_err-block-clause-io g c =
    let r = err_from_is_err_and c.from_residual.result c.from_residual.ensures.1 in
    rw (r.1, r.2) (around _ _ _ _ (λ all. block_read all c.args.handle.now) c.in_err-block.ensures.source.io c.in_err-block.ensures.exact)
