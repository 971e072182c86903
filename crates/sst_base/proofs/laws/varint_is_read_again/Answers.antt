use Rattle.sst_base.specs.VarintLaws.{varint_at-varint}
use Rattle.sst_base.proofs.laws.varint_is_read_again.Goals as goal

pub returns : goal.returns
returns c = varint_at-varint
