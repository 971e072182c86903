use Rattle.sst_base.specs.HeaderLaws.{block_type_of_takes}
use Rattle.sst_base.proofs.laws.block_type_was_written.Goals as goal

pub returns : goal.returns
returns c = block_type_of_takes
