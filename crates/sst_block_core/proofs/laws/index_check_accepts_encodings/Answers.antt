use Rattle.sst_block_core.proofs.Items.CheckAnswers.{index_accepts}
use Rattle.sst_block_core.proofs.laws.index_check_accepts_encodings.Goals as goal

pub returns : goal.returns
returns c = index_accepts
