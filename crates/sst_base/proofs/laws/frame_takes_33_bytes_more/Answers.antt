use Rattle.sst_base.specs.FrameLaws.{length-frame}
use Rattle.sst_base.proofs.laws.frame_takes_33_bytes_more.Goals as goal

pub returns : goal.returns
returns c = length-frame
