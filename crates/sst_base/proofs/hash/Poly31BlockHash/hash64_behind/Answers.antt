use Rattle.std.proofs.Common.{◌∙◌, ap, sym}
use Rattle.sst_base.specs.Hashes.{poly31_from}
use Rattle.sst_base.specs.HashLaws.{poly31-append}
use Rattle.sst_base.proofs.hash.Poly31BlockHash.hash64_behind.Goals as goal

pub returns : goal.returns
returns c = λ bytes known. c.continued64_by_eight.ensures ∙ ap (λ h. poly31_from 64 h c.args.rest.now) (sym known) ∙ poly31-append 64 bytes c.args.rest.now
