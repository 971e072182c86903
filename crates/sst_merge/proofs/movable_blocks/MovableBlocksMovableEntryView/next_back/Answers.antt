use Rattle.sst_merge.specs.MovableBlocks.{block_lists}
use Rattle.sst_merge.proofs.Moving.BlockEnds.{takes_back}
use Rattle.sst_merge.proofs.movable_blocks.MovableBlocksMovableEntryView.next_back.Goals as goal

pub returns-clause-step : goal.returns-clause-step
returns-clause-step g c = takes_back (block_lists c.self.inside.blocks.now) c.self.inside.back c.go_back.new.back c.self.inside.front c.args.self.now c.go_back.result c.self.view_is c.go_back.ensures.item c.go_back.ensures.place
