use Rattle.sst_block_core.proofs.Places.BackStacks.{is_back_filled}
use Rattle.sst_block_core.proofs.table.block.intervals.Intervals.set_back.Goals as goal

pub returns-then-end-gt0-clause-back : goal.returns-then-end-gt0-clause-back
returns-then-end-gt0-clause-back g c = (is_back_filled g.Item.BlockItem.kind c.args.self.now.list c.args.end c.fill-back.new.stack.items c.fill-back.result c.if-end-gt0.true c.requires c.fill-back.ensures.places c.fill-back.ensures.count).0

pub returns-then-end-gt0-clause-some : goal.returns-then-end-gt0-clause-some
returns-then-end-gt0-clause-some g c = λ _. (is_back_filled g.Item.BlockItem.kind c.args.self.now.list c.args.end c.fill-back.new.stack.items c.fill-back.result c.if-end-gt0.true c.requires c.fill-back.ensures.places c.fill-back.ensures.count).1
