use Rattle.sst_base.proofs.table.block.block_handle.+number_from.Given as goal

abbrev pub decreases-number_from : goal.decreases-number_from
decreases-number_from g l = l.max
