use Rattle.sst_base.specs.FrameLaws.{frame_at-frame}
use Rattle.sst_base.proofs.laws.frame_is_read_again.Goals as goal

pub returns : goal.returns
returns c = frame_at-frame
