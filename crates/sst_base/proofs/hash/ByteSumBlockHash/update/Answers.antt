use Rattle.std.proofs.Common.{◌∙◌, ap}
use Rattle.sst_base.specs.Hashes.{byte_sum_from}
use Rattle.sst_base.specs.HashLaws.{byte_sum-append}
use Rattle.sst_base.proofs.hash.ByteSumBlockHash.update.Goals as goal

pub returns : goal.returns
returns c taken known = c.sum128_from-self.ensures ∙ ap (λ h. byte_sum_from 128 h c.args.bytes.now) known ∙ byte_sum-append 128 taken c.args.bytes.now
