use Rattle.std.proofs.Common.{◌∙◌, ap, length}
use Rattle.xxh3.proofs.EightLanes.{stripe_in_lanes, with_stripe-length}
use Rattle.xxh3.proofs.sums.with_stripe.Goals as goal

pub returns-clause-value : goal.returns-clause-value
returns-clause-value c = stripe_in_lanes c.args.secret.now c.args.sums c.args.bytes.now c.args.at c.args.key_at c.words-stripe.result c.words.result c.words-stripe.ensures c.words.ensures

pub returns-clause-eight : goal.returns-clause-eight
returns-clause-eight c = ap length (returns-clause-value c) ∙ with_stripe-length c.args.secret.now c.args.bytes.now c.args.at c.args.key_at c.args.sums c.requires.eight
