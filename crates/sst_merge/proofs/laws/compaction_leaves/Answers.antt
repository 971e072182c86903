use Rattle.sstable_blocks.specs.Prelude.{Entry}
use Rattle.sst_merge.specs.StayLaws.{compacted-staying}
use Rattle.sst_merge.proofs.laws.compaction_leaves.Goals as goal

pub returns : goal.returns
returns c = λ snapshots bottom items up. compacted-staying (λ (e : Entry). e) snapshots bottom items up
