use Rattle.sst_base.specs.KeyOrderLaws.{versions_cmp_total}
use Rattle.sst_base.specs.Key.{Key}
use Rattle.sst_base.proofs.laws.equal_keys_compare_alike.Goals as goal

pub returns : goal.returns
returns c = (versions_cmp_total {X = Key} (λ k. k.user_key) (λ k. k.seqno)).congr
