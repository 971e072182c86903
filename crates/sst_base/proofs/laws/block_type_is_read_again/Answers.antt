use Rattle.sst_base.specs.HeaderLaws.{block_type_of-byte}
use Rattle.sst_base.proofs.laws.block_type_is_read_again.Goals as goal

pub returns : goal.returns
returns c = block_type_of-byte
