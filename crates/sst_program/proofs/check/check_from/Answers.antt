use Rattle.sst_program.specs.TableReads.{run_counts}
use Rattle.sst_program.proofs.TableFiles.TableFaults.{footer_told}
use Rattle.sst_program.proofs.check.check_from.Goals as goal

pub returns-in_err-table-clause-fault : goal.returns-in_err-table-clause-fault
returns-in_err-table-clause-fault g c = footer_told _ _ run_counts _ c.from_residual.result c.from_residual.ensures.1 c.in_err-table.ensures.exact
