use Rattle.sstable_blocks.specs.RunReading.{read_checked}
use Rattle.sst_program.specs.TableReads.{sst_hashes}
use Rattle.sst_program.proofs.TableFiles.TableFaults.{footer_told}
use Rattle.sst_program.proofs.get.get_from.Goals as goal

pub returns-in_err-table-clause-fault : goal.returns-in_err-table-clause-fault
returns-in_err-table-clause-fault g c =
    footer_told _ _ (λ all h. read_checked sst_hashes all h c.args.words.now.needle c.args.words.now.seqno) _ c.from_residual.result c.from_residual.ensures.1 c.in_err-table.ensures.exact
