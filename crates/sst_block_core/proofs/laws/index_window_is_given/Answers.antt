use Rattle.sst_block_core.proofs.Items.BothEnds.{handles_given}
use Rattle.sst_block_core.proofs.laws.index_window_is_given.Goals as goal

pub returns : goal.returns
returns c = handles_given
