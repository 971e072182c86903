use Rattle.sstable_blocks.proofs.ManyReads.Rising.{once}
use Rattle.sstable_blocks.proofs.run.laws.rising_blocks_are_read_once.Goals as goal

pub returns : goal.returns
returns c = once
