use Rattle.sst_merge.specs.MovableBlocks.{block_lists}
use Rattle.sst_merge.proofs.Moving.BlockEnds.{takes_front}
use Rattle.sst_merge.proofs.movable_blocks.MovableBlocksMovableEntryView.next.Goals as goal

pub returns-clause-step : goal.returns-clause-step
returns-clause-step g c = takes_front (block_lists c.self.inside.blocks.now) c.self.inside.front c.go_forth.new.front c.self.inside.back c.args.self.now c.go_forth.result c.self.view_is c.go_forth.ensures.item c.go_forth.ensures.place
