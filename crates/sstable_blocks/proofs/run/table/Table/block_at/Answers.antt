use Rattle.std.proofs.Common.{subst}
use Rattle.sstable_blocks.specs.Sources.{AsksExactly, UsesSource}
use Rattle.sstable_blocks.proofs.Reading.Placed.{asks_whole}
use Rattle.sstable_blocks.proofs.run.table.Table.block_at.Goals as goal

pub returns-clause-source : goal.returns-clause-source
returns-clause-source g c =
    subst (λ w. UsesSource g.S.FrameSource.bytes g.S.FrameSource.failures g.S.FrameSource.reads g.S.FrameSource.is_reliable (AsksExactly 1) w.source c.block_at.new.source c.block_at.result)
    c.self.view_is (asks_whole _ _ _ _ _ _ _ _ c.block_at.ensures.source c.block_at.ensures.asked)
