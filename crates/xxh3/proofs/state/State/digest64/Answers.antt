use Rattle.std.proofs.Common.{◌<◌, arith, ap, ◌∙◌}
use Rattle.xxh3.specs.Xxh3.{default_secret, hash64_by, xxh3_64}
use Rattle.xxh3.proofs.Keeping.{whole, ends64}
use Rattle.xxh3.proofs.state.State.digest64.Goals as goal
use Rattle.xxh3.proofs.state.State.digest64.Goals.{then-not-self-via-then-not-self, then-not-self-via-else-not-self+then-self-eq0}

pub returns : goal.returns
returns c = λ message held.
    let stripes = c.if-not-self.false in
    let waits : 0 < c.args.self.now.filled = held.waits stripes in
    ends64 c.args.self.now message held.stripes held.at stripes waits c.message_sums-sums.result
    (c.message_sums-sums.ensures message held.stripes held.at (held.at.some stripes)) c.merged.result (rw c.secret-2.ensures at c.merged.ensures)

pub returns-then-not-self : goal.returns-then-not-self
unfolding xxh3_64
returns-then-not-self c = λ message held.
    elim c.then-not-self.branch [
      | then-not-self-via-then-not-self w ↦
          rw c.secret.ensures at c.hash64_by.ensures
          ∙ ap (hash64_by default_secret) (whole c.args.self.now message held.stripes held.at w.if-not-self.true (omega arith) c.args.self.now.in_window _ (omega arith))
      | then-not-self-via-else-not-self+then-self-eq0 w ↦ let waits = held.waits w.if-not-self.false in let none = w.if-self-eq0.true in absurd (omega arith)
    ]
