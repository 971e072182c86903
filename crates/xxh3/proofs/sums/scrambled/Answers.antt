use Rattle.std.proofs.Common.{◌∙◌, ap, length}
use Rattle.xxh3.proofs.EightLanes.{scrambled_in_lanes, scrambled-length}
use Rattle.xxh3.proofs.sums.scrambled.Goals as goal

pub returns-clause-value : goal.returns-clause-value
returns-clause-value c = scrambled_in_lanes c.args.secret.now c.args.sums c.words.result c.requires c.words.ensures

pub returns-clause-eight : goal.returns-clause-eight
returns-clause-eight c = ap length (returns-clause-value c) ∙ scrambled-length c.args.secret.now c.args.sums c.requires
