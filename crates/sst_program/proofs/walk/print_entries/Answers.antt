use Rattle.std.proofs.Common.{arith}
use Rattle.std.proofs.lemmas.Result.{err_from_is_err_and}
use Rattle.sst_program.proofs.TableFiles.TableFaults.{among, blocks_fail, blocks_late}
use Rattle.sst_program.proofs.walk.print_entries.Goals as goal

pub returns-in_err-index-clause-io : goal.returns-in_err-index-clause-io
returns-in_err-index-clause-io g c =
    let r = err_from_is_err_and c.from_residual.result c.from_residual.ensures.1 in
    rw (r.1, r.2) (among _ _ _ c.args.index.now _ c.in_err-index.ensures.source.io c.in_err-index.ensures.exact)

pub returns-clause-refused : goal.returns-clause-refused
returns-clause-refused g c =
    let i = c.in_ok-index.ensures in
    let p = c.print_blocks.ensures in
    blocks_late _ _ _ _ c.args.index.now c.in_ok-index.index.items _ _ c.print_blocks.result i.source.same i.exact (λ less. omega (arith, less, i.source.failures_grow)) p.refused

pub returns-clause-io : goal.returns-clause-io
returns-clause-io g c =
    let i = c.in_ok-index.ensures in
    blocks_fail _ _ _ _ _ _ c.args.index.now c.in_ok-index.index.items c.print_blocks.result i.source.same i.exact (λ less. omega (arith, less, i.source.failures_grow)) i.source.kept c.print_blocks.ensures.io
