use Rattle.std.proofs.Common.{subst}
use Rattle.sst_block_core.specs.Handles.{handles}
use Rattle.sstable_blocks.specs.Lookup.{handle_for}
use Rattle.sstable_blocks.specs.Sources.{AsksExactly, UsesSource}
use Rattle.sstable_blocks.specs.Tables.{frames_by, kept_says}
use Rattle.sstable_blocks.proofs.Reading.Placed.{asks_whole}
use Rattle.sstable_blocks.proofs.run.table.Table.get.Goals as goal

pub returns-clause-source : goal.returns-clause-source
returns-clause-source g c =
    subst (λ w. UsesSource g.S.FrameSource.bytes g.S.FrameSource.failures g.S.FrameSource.reads g.S.FrameSource.is_reliable (AsksExactly (frames_by (kept_says g.H.BlockHash.hash64 w.filter c.args.needle.now) (handle_for handles c.args.needle.now c.args.seqno w.index))) w.source c.get.new.source c.get.result)
    c.self.view_is (asks_whole _ _ _ _ _ _ _ _ c.get.ensures.source c.get.ensures.asked)
