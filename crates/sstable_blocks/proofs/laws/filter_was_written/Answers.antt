use Rattle.sstable_blocks.specs.FilterLaws.{filter_at_takes}
use Rattle.sstable_blocks.proofs.laws.filter_was_written.Goals as goal

pub returns : goal.returns
returns c = filter_at_takes
