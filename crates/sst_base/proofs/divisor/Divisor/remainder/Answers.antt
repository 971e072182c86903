use Rattle.std.proofs.Common.{arith, ◌%◌, ap, ◌∙◌}
use Rattle.sst_base.proofs.Hashes.Remainders.{not_above, near, rest_is, rest_more}
use Rattle.sst_base.proofs.divisor.Divisor.remainder.Goals as goal

pub overflow_sub-rest : goal.overflow_sub-rest
overflow_sub-rest c =
    let m = c.self.inside.value in
    not_above c.args.number m c.self.inside.reciprocal _ c.self.invariant.some c.self.invariant.value c.high_product-quotient.ensures

pub returns-then-rest-self : goal.returns-then-rest-self
returns-then-rest-self c =
    let m = c.self.inside.value in
    let q = c.high_product-quotient.result in
    let below = not_above c.args.number m c.self.inside.reciprocal q c.self.invariant.some c.self.invariant.value c.high_product-quotient.ensures in
    rest_is c.args.number m q _ (omega (arith, below)) c.if-rest-self.true ∙ ap (λ n. c.args.number % n) c.self.view_is

pub returns-else-rest-self : goal.returns-else-rest-self
returns-else-rest-self c =
    let m = c.self.inside.value in
    let q = c.high_product-quotient.result in
    let below = not_above c.args.number m c.self.inside.reciprocal q c.self.invariant.some c.self.invariant.value c.high_product-quotient.ensures in
    let close = near c.args.number m c.self.inside.reciprocal q (omega arith) c.self.invariant.some c.self.invariant.value c.high_product-quotient.ensures in
    rest_more c.args.number m q _ (omega (arith, below)) c.if-rest-self.false (omega (arith, below, close)) ∙ ap (λ n. c.args.number % n) c.self.view_is
