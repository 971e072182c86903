use Rattle.std.proofs.Common.{arith}
use Rattle.sst_sources.proofs.FrontNumbers.{front_of_rest}
use Rattle.sst_sources.proofs.front.front_of_last.Goals as goal

pub returns : goal.returns
returns c = front_of_rest c.args.bytes.now c.split_at.result.1.now c.args.from c.front_of.result (λ k. let h = c.type_inv.bytes k in omega arith) c.requires.long c.requires.inside c.requires.few c.split_at.ensures.back c.front_of.ensures
