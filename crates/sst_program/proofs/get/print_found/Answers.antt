use Rattle.std.proofs.lemmas.Result.{err_from_is_err_and}
use Rattle.sstable_blocks.specs.RunReading.{read_checked}
use Rattle.sst_program.specs.TableReads.{sst_hashes}
use Rattle.sst_program.proofs.TableFiles.TableFaults.{around}
use Rattle.sst_program.proofs.get.print_found.Goals as goal

pub returns-in_err-found-clause-io : goal.returns-in_err-found-clause-io
returns-in_err-found-clause-io g c =
    let r = err_from_is_err_and c.from_residual.result c.from_residual.ensures.1 in
    rw (r.1, r.2) (around _ _ _ _ (λ all. read_checked sst_hashes all c.args.handles.now c.args.words.now.needle c.args.words.now.seqno) c.in_err-found.ensures.source.io c.in_err-found.ensures.exact)
