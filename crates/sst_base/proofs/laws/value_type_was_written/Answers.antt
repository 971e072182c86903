use Rattle.sst_base.specs.ReadingLaws.{value_type_of_takes}
use Rattle.sst_base.proofs.laws.value_type_was_written.Goals as goal

pub returns : goal.returns
returns c = value_type_of_takes
