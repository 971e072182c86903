use Rattle.sst_base.specs.FrameLaws.{frame_in_takes}
use Rattle.sst_base.proofs.laws.whole_frame_was_written.Goals as goal

pub returns : goal.returns
returns c = frame_in_takes
