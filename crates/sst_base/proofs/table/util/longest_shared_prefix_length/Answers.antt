use Rattle.std.proofs.Common.{arith, ◌≤◌, ◌+◌, ◌*◌, length, ◌≡◌, ◌/◌, ◌∙◌, ap, take, subst}
use Rattle.sst_base.proofs.Strings.Orders.{words_agree}
use Rattle.sst_base.proofs.Strings.FirstDifference.{xor_zero, differs_at}
use Rattle.sst_base.specs.SharedPrefix.{shared_prefix_length}
use Rattle.sst_base.specs.SharedPrefixLaws.{shared_prefix_behind}
use Rattle.sst_base.proofs.table.util.longest_shared_prefix_length.Goals as goal

pub loop-i-preserved : goal.loop-i-preserved
loop-i-preserved c =
    let left : 8 * c.loop-i.i + 8 ≤ length c.args.a.now = omega arith in
    let right : 8 * c.loop-i.i + 8 ≤ length c.args.b.now = omega arith in
    words_agree c.args.a.now c.args.b.now c.loop-i.i _ _ (λ k. let h = c.type_inv.a k in omega arith) (λ k. let h = c.type_inv.b k in omega arith) left right
    c.word_at.ensures c.word_at-in-loop-i.ensures (xor_zero c.word_at.result c.word_at-in-loop-i.result c.if-difference-ne0.false) c.loop-i.invariant

pub returns-then-difference-ne0 : goal.returns-then-difference-ne0
returns-then-difference-ne0 c =
    let left : 8 * c.loop-i.i + 8 ≤ length c.args.a.now = omega arith in
    let right : 8 * c.loop-i.i + 8 ≤ length c.args.b.now = omega arith in
    differs_at c.args.a.now c.args.b.now (8 * c.loop-i.i) c.word_at.result c.word_at-in-loop-i.result (λ k. let h = c.type_inv.a k in omega arith) (λ k. let h = c.type_inv.b k in omega arith) left right
    c.word_at.ensures c.word_at-in-loop-i.ensures c.loop-i.invariant c.if-difference-ne0.true

pub returns : goal.returns
returns c =
    let n = 8 * (c.min-words.result / 8) in
    let ended : c.loop-i.i ≡ c.min-words.result / 8 = omega (arith, c.loop-i.auto.i-end, c.loop-i-test.false) in
    let same : take n c.args.a.now ≡ take n c.args.b.now = subst (λ i. take (8 * i) c.args.a.now ≡ take (8 * i) c.args.b.now) ended c.loop-i.invariant in
    ap (λ k. n + k) (c.shared_bytes.ensures.value ∙ (λ i. shared_prefix_length (c.split_at.ensures.back i) (c.split_at-2.ensures.back i)))
    ∙ shared_prefix_behind n c.args.a.now c.args.b.now (omega arith) (omega arith) same
