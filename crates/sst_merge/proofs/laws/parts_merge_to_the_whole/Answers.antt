use Rattle.sst_merge.specs.PartLaws.{parts_whole}
use Rattle.sst_merge.proofs.laws.parts_merge_to_the_whole.Goals as goal

pub returns : goal.returns
returns c = parts_whole
