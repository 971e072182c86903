use Rattle.sstable_blocks.specs.FilterLaws.{filter_at-payload}
use Rattle.sstable_blocks.proofs.laws.filter_is_read_again.Goals as goal

pub returns : goal.returns
returns c = filter_at-payload
