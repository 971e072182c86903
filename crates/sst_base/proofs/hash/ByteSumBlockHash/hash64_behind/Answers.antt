use Rattle.std.proofs.Common.{◌∙◌, ap, sym}
use Rattle.sst_base.specs.Hashes.{byte_sum_from}
use Rattle.sst_base.specs.HashLaws.{byte_sum-append}
use Rattle.sst_base.proofs.hash.ByteSumBlockHash.hash64_behind.Goals as goal

pub returns : goal.returns
returns c = λ bytes known. c.sum64_from.ensures ∙ ap (λ h. byte_sum_from 64 h c.args.rest.now) (sym known) ∙ byte_sum-append 64 bytes c.args.rest.now
