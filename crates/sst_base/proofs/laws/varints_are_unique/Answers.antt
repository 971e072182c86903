use Rattle.sst_base.specs.VarintLaws.{one_encoding}
use Rattle.sst_base.proofs.laws.varints_are_unique.Goals as goal

pub returns : goal.returns
returns c = one_encoding
