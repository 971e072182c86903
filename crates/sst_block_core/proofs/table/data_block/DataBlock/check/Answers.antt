use Rattle.std.proofs.Common.{◌∙◌, ap}
use Rattle.sst_block_core.proofs.table.data_block.DataBlock.check.Goals as goal

pub returns-clause-accepts : goal.returns-clause-accepts
returns-clause-accepts g c = λ items r b is. ap (λ d. d.items) c.block.view_is ∙ c.in_ok-block.ensures.accepts items r b is
