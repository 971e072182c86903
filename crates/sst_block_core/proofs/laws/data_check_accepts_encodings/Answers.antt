use Rattle.sst_block_core.proofs.Items.CheckAnswers.{data_accepts}
use Rattle.sst_block_core.proofs.laws.data_check_accepts_encodings.Goals as goal

pub returns : goal.returns
returns c = data_accepts
