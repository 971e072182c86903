use Rattle.sst_block_core.specs.BucketReadLaws.{free_bucket}
use Rattle.sst_block_core.proofs.laws.free_bucket_has_no_item.Goals as goal

pub returns : goal.returns
returns g c hash r b items needle pos some few = free_bucket g.T.BlockItem.kind hash r b items needle pos some few
