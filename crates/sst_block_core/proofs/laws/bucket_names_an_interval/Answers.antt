use Rattle.sst_block_core.specs.BucketReadLaws.{bucket_interval, interval_exists}
use Rattle.sst_block_core.proofs.laws.bucket_names_an_interval.Goals as goal

pub returns : goal.returns
returns g c hash r b items needle n pos some few is used alone = (
  interval_exists g.T.BlockItem.kind hash r b items needle pos some few n is used alone,
  (λ i x at same. (bucket_interval g.T.BlockItem.kind hash r b items needle pos some few n is used alone i x at same).0),
)
