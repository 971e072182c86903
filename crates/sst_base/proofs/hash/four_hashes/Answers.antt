use Rattle.std.proofs.Common.{arith}
use Rattle.sst_base.proofs.Hashes.FourHashes.{fours_in_lanes}
use Rattle.sst_base.proofs.hash.four_hashes.Goals as goal

pub returns : goal.returns
returns c = fours_in_lanes c.args.bytes.now (λ i. let h = c.type_inv.bytes i in omega arith) c.requires
