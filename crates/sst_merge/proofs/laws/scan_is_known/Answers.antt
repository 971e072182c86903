use Rattle.sst_sources.specs.StoredLaws.{known_all}
use Rattle.sst_merge.proofs.laws.scan_is_known.Goals as goal

pub returns : goal.returns
returns c = known_all
