use Rattle.std.proofs.Common.{arith, ◌∙◌}
use Rattle.sst_block_core.proofs.Check.KeyOrders.{first_four, rests_decided}
use Rattle.sst_block_core.proofs.table.block.check.keys.compare_rests.Goals as goal

pub returns-then-x-y : goal.returns-then-x-y
returns-then-x-y c =
    c.cmp.ensures
    ∙ first_four c.args.a.now c.args.b.now c.read_u32-x.result c.read_u32-y.result (λ i. let h = c.type_inv.a i in omega arith) (λ i. let h = c.type_inv.b i in omega arith)
    c.if-a-ge4.true c.if-b-ge4.true c.read_u32-x.ensures c.read_u32-y.ensures c.if-x-y.true

pub returns-in-Some : goal.returns-in-Some
returns-in-Some c = rests_decided c.args.a.now c.args.b.now _ c.in-Some.ensures
