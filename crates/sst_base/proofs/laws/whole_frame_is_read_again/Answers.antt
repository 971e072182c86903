use Rattle.sst_base.specs.FrameLaws.{frame_in-frame}
use Rattle.sst_base.proofs.laws.whole_frame_is_read_again.Goals as goal

pub returns : goal.returns
returns c = frame_in-frame
