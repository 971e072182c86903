use Rattle.sst_base.specs.FrameLaws.{length-header}
use Rattle.sst_base.proofs.laws.header_takes_33_bytes.Goals as goal

pub returns : goal.returns
returns c = length-header
