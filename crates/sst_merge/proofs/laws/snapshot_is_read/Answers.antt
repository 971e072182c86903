use Rattle.sst_merge.specs.ReadLaws.{snapshot_match}
use Rattle.sst_merge.proofs.laws.snapshot_is_read.Goals as goal

pub returns : goal.returns
returns c = snapshot_match
