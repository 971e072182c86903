use Rattle.sst_merge.specs.ReadLaws.{merged_order}
use Rattle.sst_merge.proofs.laws.merge_is_ordered.Goals as goal

pub returns : goal.returns
returns c = merged_order
