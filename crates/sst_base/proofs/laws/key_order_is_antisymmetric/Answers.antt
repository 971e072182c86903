use Rattle.sst_base.specs.KeyOrderLaws.{versions_cmp_total}
use Rattle.sst_base.specs.Key.{Key}
use Rattle.sst_base.proofs.laws.key_order_is_antisymmetric.Goals as goal

pub returns : goal.returns
returns c = (versions_cmp_total {X = Key} (λ k. k.user_key) (λ k. k.seqno)).antisymm
