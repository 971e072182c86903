use Rattle.sst_block_core.proofs.Items.Verdicts.{data_verdict}
use Rattle.sst_block_core.proofs.laws.data_check_is_by_stages.Goals as goal

pub returns : goal.returns
returns c = data_verdict
