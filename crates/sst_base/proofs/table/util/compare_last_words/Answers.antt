use Rattle.std.proofs.Common.{arith, ◌≤◌, ◌+◌, ◌-◌, ◌∙◌, ◌≡◌, length, min}
use Rattle.sst_base.proofs.Strings.Orders.{words_decide, last_words_same}
use Rattle.sst_base.proofs.table.util.compare_last_words.Goals as goal

pub returns-then-x-y : goal.returns-then-x-y
returns-then-x-y c =
    let left : (c.args.end - 8) + 8 ≤ length c.args.a.now = omega (arith, c.requires.end, c.requires.word) in
    let right : (c.args.end - 8) + 8 ≤ length c.args.b.now = omega (arith, c.requires.end, c.requires.word) in
    c.cmp.ensures ∙ words_decide c.args.a.now c.args.b.now (c.args.end - 8) _ _ (λ k. let h = c.type_inv.a k in omega arith) (λ k. let h = c.type_inv.b k in omega arith) left right c.word_at-x.ensures c.word_at-y.ensures c.if-x-y.true c.requires.same

pub returns : goal.returns
returns c =
    let ends : (c.args.end - 8) + 8 ≡ min (length c.args.a.now) (length c.args.b.now) = omega (arith, c.requires.end, c.requires.word) in
    c.cmp-2.ensures ∙ last_words_same c.args.a.now c.args.b.now (c.args.end - 8) _ _ (λ k. let h = c.type_inv.a k in omega arith) (λ k. let h = c.type_inv.b k in omega arith) ends c.word_at-x.ensures c.word_at-y.ensures c.if-x-y.false c.requires.same
