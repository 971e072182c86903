use Rattle.sst_merge.specs.ReadLaws.{snapshot_plain}
use Rattle.sst_merge.proofs.laws.snapshot_shows.Goals as goal

pub returns : goal.returns
returns c = snapshot_plain
