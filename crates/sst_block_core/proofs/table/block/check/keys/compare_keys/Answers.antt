use Rattle.sst_block_core.proofs.Check.KeyOrders.{one_prefix}
use Rattle.sst_block_core.proofs.table.block.check.keys.compare_keys.Goals as goal

pub returns-then-a-b-2 : goal.returns-then-a-b-2
returns-then-a-b-2 c =
    one_prefix c.args.payload.now c.args.a.now c.args.b.now c.requires.left.prefix c.requires.right.prefix c.compare_rests.result c.bytes_of.result.now c.bytes_of-then-a-b-2.result.now
    c.if-a-b.true c.if-a-b-2.true c.bytes_of.ensures c.bytes_of-then-a-b-2.ensures c.compare_rests.ensures
