use Rattle.sstable_blocks.specs.FilterLaws.{length-filter_payload}
use Rattle.sstable_blocks.proofs.laws.filter_takes_22_bytes_more.Goals as goal

pub returns : goal.returns
returns c = length-filter_payload
