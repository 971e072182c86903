use Rattle.sst_base.specs.VarintLaws.{IsVarint-varint}
use Rattle.sst_base.proofs.laws.varint_meets_grammar.Goals as goal

pub returns : goal.returns
returns c = IsVarint-varint
