use Rattle.sst_base.specs.KeyOrderLaws.{versions_cmp-less}
use Rattle.sst_base.proofs.laws.key_sorts_before.Goals as goal

pub returns : goal.returns
returns c = versions_cmp-less (λ k. k.user_key) (λ k. k.seqno)
