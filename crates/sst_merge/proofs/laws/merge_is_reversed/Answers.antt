use Rattle.sstable_blocks.specs.BlockLaws.{versions_cmp_total}
use Rattle.sstable_blocks.specs.Prelude.{entries}
use Rattle.sst_sources.specs.Merge.{entry_cmp}
use Rattle.sst_merge.specs.Reversals.{merged_reversed}
use Rattle.sst_merge.proofs.laws.merge_is_reversed.Goals as goal

pub returns : goal.returns
returns c = λ lists all. merged_reversed entry_cmp (versions_cmp_total entries.key entries.seqno) lists all
