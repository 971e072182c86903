use Rattle.std.proofs.Common.{arith}
use Rattle.sst_block_core.proofs.Check.KeyOrders.{not_before_least}
use Rattle.sst_block_core.proofs.table.block.check.keys.head_keeps_order.Goals as goal

pub returns-then-is_least : goal.returns-then-is_least
returns-then-is_least c =
    let sure = c.if-is_least.true in
    let none = c.is_least.ensures.key sure c.args.payload.now in
    let most = c.is_least.ensures.seqno sure in
    ((λ _. not_before_least c.args.payload.now c.args.last.now c.args.version none most (let w = c.well_formed in omega (arith, w))), (λ _. sure))
