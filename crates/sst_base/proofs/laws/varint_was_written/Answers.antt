use Rattle.sst_base.specs.VarintLaws.{varint_at_takes}
use Rattle.sst_base.proofs.laws.varint_was_written.Goals as goal

pub returns : goal.returns
returns c = varint_at_takes
