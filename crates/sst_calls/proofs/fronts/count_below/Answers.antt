use Rattle.std.proofs.Common.{◌+◌, ◌/◌, refl, sym, subst}
use Rattle.sst_calls.proofs.Lists.Fronts.{IsSought, sought_next}
use Rattle.sst_calls.proofs.fronts.count_below.Goals as goal

pub loop-size-preserved : goal.loop-size-preserved
loop-size-preserved c =
    let l = c.loop-size in
    let next = sought_next c.args.numbers.now c.args.number l.base l.size (l.size / 2) c.is_below.result c.requires.rising l.invariant c.loop-size-test.true refl c.is_below.ensures in
    subst (λ n. IsSought c.args.numbers.now c.args.number (l.base + n) (l.size / 2)) (sym c.times-base.ensures) next
