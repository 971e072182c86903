use Rattle.sstable_blocks.specs.FilterLaws.{inserted_may_be_contained}
use Rattle.sstable_blocks.proofs.laws.inserted_hash_is_not_hidden.Goals as goal

pub returns : goal.returns
returns c = inserted_may_be_contained
