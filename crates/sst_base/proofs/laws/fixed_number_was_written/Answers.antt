use Rattle.sst_base.specs.BytesLaws.{little_bytes-little_number}
use Rattle.sst_base.proofs.laws.fixed_number_was_written.Goals as goal

pub returns : goal.returns
returns c = little_bytes-little_number
