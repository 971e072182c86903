use Rattle.sst_block_core.proofs.Items.Verdicts.{index_verdict}
use Rattle.sst_block_core.proofs.laws.index_check_is_by_stages.Goals as goal

pub returns : goal.returns
returns c = index_verdict
