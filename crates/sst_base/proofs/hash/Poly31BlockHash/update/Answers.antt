use Rattle.std.proofs.Common.{◌∙◌, ap}
use Rattle.sst_base.specs.Hashes.{poly31_from}
use Rattle.sst_base.specs.HashLaws.{poly31-append}
use Rattle.sst_base.proofs.hash.Poly31BlockHash.update.Goals as goal

pub returns : goal.returns
returns c taken known = c.continued128_by_sixteen-self.ensures ∙ ap (λ h. poly31_from 128 h c.args.bytes.now) known ∙ poly31-append 128 taken c.args.bytes.now
