use Rattle.sstable_blocks.specs.FilterLaws.{filter_unique}
use Rattle.sstable_blocks.proofs.laws.filter_is_unique.Goals as goal

pub returns : goal.returns
returns c = filter_unique
