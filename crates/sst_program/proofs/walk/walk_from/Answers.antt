use Rattle.sst_program.proofs.TableFiles.TableFaults.{footer_walk_told}
use Rattle.sst_program.proofs.walk.walk_from.Goals as goal

pub returns-in_err-table-clause-fault : goal.returns-in_err-table-clause-fault
returns-in_err-table-clause-fault g c = footer_walk_told _ _ _ _ c.from_residual.result c.from_residual.ensures.1 c.in_err-table.ensures.exact
