use Rattle.std.proofs.Common.{refl, arith}
use Rattle.sst_block_core.specs.Found.{range_bytes}
use Rattle.sst_block_core.proofs.Check.KeyOrders.{answer_says, left_behind, right_behind}
use Rattle.sst_block_core.proofs.table.block.check.keys.compare_behind.Goals as goal

pub returns-in_ok-decided : goal.returns-in_ok-decided
returns-in_ok-decided c =
    left_behind c.args.payload.now c.args.a.now c.args.b.now c.requires.left.prefix c.requires.right.prefix _ _ _ _ (range_bytes c.args.payload.now c.args.b.now.rest) c.requires.place c.if-a-b.true
    c.bytes_of-more.ensures c.bytes_of.ensures refl (c.in_ok-decided.ensures _) c.reverse.ensures

pub returns-else-a-b : goal.returns-else-a-b
returns-else-a-b c = answer_says _ _ _
    (λ o decides. right_behind c.args.payload.now c.args.a.now c.args.b.now c.requires.left.prefix c.requires.right.prefix o _ (range_bytes c.args.payload.now c.args.a.now.rest) _ c.requires.place (omega arith)
    c.bytes_of-more-else-a-b.ensures refl c.bytes_of-else-a-b.ensures (decides _))
    c.compare_first-else-a-b.ensures
