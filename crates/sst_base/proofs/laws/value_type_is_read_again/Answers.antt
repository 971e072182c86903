use Rattle.sst_base.specs.ReadingLaws.{value_type_of-byte}
use Rattle.sst_base.proofs.laws.value_type_is_read_again.Goals as goal

pub returns : goal.returns
returns c = value_type_of-byte
