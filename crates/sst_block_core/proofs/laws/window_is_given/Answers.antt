use Rattle.sst_block_core.proofs.Items.BothEnds.{entries_given}
use Rattle.sst_block_core.proofs.laws.window_is_given.Goals as goal

pub returns : goal.returns
returns c = entries_given
