use Rattle.sst_merge.specs.ReadLaws.{merged_match}
use Rattle.sst_merge.proofs.laws.merge_is_read.Goals as goal

pub returns : goal.returns
returns c = merged_match
