use Rattle.std.proofs.Common.{arith, ◌≡◌, ◌≢◌, ◌-◌, ◌+◌, ◌∙◌, sym, rules}
use Rattle.std.specs.declared.cmp.Ordering.TheVariants.{Less}
use Rattle.sst_block_core.specs.Kind.{item_cmp}
use Rattle.sst_block_core.proofs.Items.OrderedSteps.{order_step, order_whole}
use Rattle.sst_block_core.proofs.table.order.is_ordered.Goals as goal
use Rattle.sst_base.specs.TestLaws.{not_lt}

pub loop-i-preserved : goal.loop-i-preserved
loop-i-preserved g c =
    let cmp = item_cmp g.Item.BlockItem.kind in
    let x = c.index-items-i-in-loop-i.result in
    let y = c.index-items-i.result in
    let e : c.loop-i.i + 1 - 1 ≡ c.loop-i.i = omega arith in
    let ne : cmp y x ≢ Less = not_lt (cmp y x) (sym c.sorts_before.ensures ∙ c.if-sorts_before.false) in
    rw e (order_step cmp c.args.items.now (c.loop-i.i - 1) c.loop-i.i x y (omega arith) (omega arith) c.index-items-i-in-loop-i.is c.index-items-i.is ne c.loop-i.invariant)

pub returns : goal.returns
returns g c =
    let all = order_whole (item_cmp g.Item.BlockItem.kind) c.args.items.now (c.loop-i.i - 1) (omega arith) c.loop-i.invariant in
    ((λ _. all), (λ _. search rules))
