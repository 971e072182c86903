use Rattle.std.proofs.Common.{refl}
use Rattle.xxh3.proofs.Keeping.{ends}
use Rattle.xxh3.proofs.state.State.message_sums.Goals as goal

pub returns : goal.returns
returns c = λ message n h four.
    ends c.args.self.now message n h four c.requires _ refl c.with_stripes-sums.result c.with_stripe.result
    (rw c.secret.ensures at c.with_stripes-sums.ensures.value) (rw c.secret-2.ensures at c.with_stripe.ensures.value)
