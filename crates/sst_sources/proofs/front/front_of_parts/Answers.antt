use Rattle.std.proofs.Common.{arith, ◌++◌, ◌∙◌}
use Rattle.sst_sources.proofs.FrontNumbers.{front_of_long, front_joined, front_small, bytes_joined}
use Rattle.sst_sources.proofs.front.front_of_parts.Goals as goal

pub returns-then-left-ge8 : goal.returns-then-left-ge8
returns-then-left-ge8 c = c.front_of.ensures ∙ front_of_long c.args.left.now c.args.right.now c.if-left-ge8.true

pub returns : goal.returns
returns c = front_joined c.args.left.now c.args.right.now _ _ (λ k. let h = c.type_inv.right k in omega arith) (omega (arith, c.if-left-ge8.false)) c.front_of-2.ensures c.front_of-3.ensures

pub overflow_add-result : goal.overflow_add-result
overflow_add-result c =
    let e = front_joined c.args.left.now c.args.right.now _ _ (λ k. let h = c.type_inv.right k in omega arith) (omega (arith, c.if-left-ge8.false)) c.front_of-2.ensures c.front_of-3.ensures in
    let s = front_small (c.args.left.now ++ c.args.right.now) (bytes_joined c.args.left.now c.args.right.now (λ k. let h = c.type_inv.left k in omega arith) (λ k. let h = c.type_inv.right k in omega arith)) in
    omega (arith, e, s)
