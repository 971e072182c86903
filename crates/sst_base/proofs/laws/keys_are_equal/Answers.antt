use Rattle.sst_base.specs.KeyOrderLaws.{versions_cmp-equal}
use Rattle.sst_base.proofs.laws.keys_are_equal.Goals as goal

pub returns : goal.returns
returns c = versions_cmp-equal (λ k. k.user_key) (λ k. k.seqno)
