use Rattle.std.proofs.Common.{arith, ◌≤◌, ◌+◌, ◌*◌, ◌∙◌, length}
use Rattle.sst_base.proofs.Strings.Orders.{words_decide, words_agree}
use Rattle.sst_base.proofs.table.util.compare_bytes.Goals as goal

pub returns-then-x-y : goal.returns-then-x-y
returns-then-x-y c =
    let left : 8 * c.loop-i.i + 8 ≤ length c.args.a.now = omega arith in
    let right : 8 * c.loop-i.i + 8 ≤ length c.args.b.now = omega arith in
    c.cmp.ensures ∙ words_decide c.args.a.now c.args.b.now (8 * c.loop-i.i) _ _ (λ k. let h = c.type_inv.a k in omega arith) (λ k. let h = c.type_inv.b k in omega arith) left right c.word_at-x.ensures c.word_at-y.ensures c.if-x-y.true c.loop-i.invariant

pub loop-i-preserved : goal.loop-i-preserved
loop-i-preserved c =
    let left : 8 * c.loop-i.i + 8 ≤ length c.args.a.now = omega arith in
    let right : 8 * c.loop-i.i + 8 ≤ length c.args.b.now = omega arith in
    words_agree c.args.a.now c.args.b.now c.loop-i.i _ _ (λ k. let h = c.type_inv.a k in omega arith) (λ k. let h = c.type_inv.b k in omega arith) left right c.word_at-x.ensures c.word_at-y.ensures c.if-x-y.false c.loop-i.invariant
