use Rattle.sst_base.specs.VarintLaws.{one_form_lem}
use Rattle.sst_base.proofs.laws.varints_are_prefix_free.Goals as goal

pub returns : goal.returns
returns c = one_form_lem
