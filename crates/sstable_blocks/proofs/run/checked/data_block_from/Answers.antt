use Rattle.sstable_blocks.proofs.Reading.Placed.{asks_whole}
use Rattle.sstable_blocks.proofs.run.checked.data_block_from.Goals as goal

pub returns-clause-source : goal.returns-clause-source
returns-clause-source g c = asks_whole _ _ _ _ 1 _ _ _ c.data_block_from.ensures.source c.data_block_from.ensures.asked
