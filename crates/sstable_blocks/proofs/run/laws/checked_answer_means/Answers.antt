use Rattle.sstable_blocks.specs.MeaningLaws.{answer_means}
use Rattle.sstable_blocks.proofs.run.laws.checked_answer_means.Goals as goal

pub returns : goal.returns
returns c = λ hs. answer_means hs (c.data_check_is_by_stages.ensures hs.hash64) c.index_check_is_by_stages.ensures
