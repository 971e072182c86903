use Rattle.std.proofs.Common.{ap, arith, length}
use Rattle.sstable_blocks.specs.RunReading.{hashes}
use Rattle.sst_merge.proofs.Moving.TableEnds.{sought_none, sought_some, sought_whole}
use Rattle.sst_merge.proofs.Moving.TableFrames.{seeks_before, seeks_some, seeks_whole}
use Rattle.sst_merge.proofs.movable_table.seek_back.Goals as goal

pub returns-then-index-len-clause-back : goal.returns-then-index-len-clause-back
returns-then-index-len-clause-back g c =
    sought_whole (hashes g.H.BlockHash.hash64 g.H.BlockHash.hash128) g.S.FrameSource.bytes c.args.table.now c.args.key.now c.blocks_passed-index.result c.blocks_passed-index.ensures c.open_back.result (let e = ap length c.index.ensures.items in omega (arith, e)) c.open_back.ensures.back

pub returns-in-Some-clause-back : goal.returns-in-Some-clause-back
returns-in-Some-clause-back g c =
    sought_some (hashes g.H.BlockHash.hash64 g.H.BlockHash.hash128) g.S.FrameSource.bytes c.args.table.now c.args.key.now c.blocks_passed-index.result c.blocks_passed-index.ensures c.in_ok-left.left.window c.seek_upper.new.self.window _
    c.in_ok-left.ensures.block c.in_ok-left.ensures.whole c.seek_upper.ensures.step.step_is c.in_ok-held.held c.in-Some.open c.in-Some.is c.in_ok-held.ensures.held

pub returns-in-None-clause-back : goal.returns-in-None-clause-back
returns-in-None-clause-back g c =
    sought_none (hashes g.H.BlockHash.hash64 g.H.BlockHash.hash128) g.S.FrameSource.bytes c.args.table.now c.args.key.now c.blocks_passed-index.result c.blocks_passed-index.ensures c.in_ok-left.left.window c.seek_upper.new.self.window _
    c.in_ok-left.ensures.block c.in_ok-left.ensures.whole c.seek_upper.ensures.step.step_is c.entries_at.new.table c.in_ok-left.ensures.same c.in_ok-held.held c.open_back-in-None.result c.in-None.is c.in_ok-held.ensures.held c.open_back-in-None.ensures.back

pub returns-then-index-len-clause-asks : goal.returns-then-index-len-clause-asks
returns-then-index-len-clause-asks g c =
    seeks_whole (hashes g.H.BlockHash.hash64 g.H.BlockHash.hash128) g.S.FrameSource.bytes g.S.FrameSource.reads c.args.table.now c.args.key.now c.blocks_passed-index.result c.blocks_passed-index.ensures c.open_back.new.table c.open_back.result (let e = ap length c.index.ensures.items in omega (arith, e)) c.open_back.ensures.asks
    (returns-then-index-len-clause-back g c)

pub returns-in-Some-clause-asks : goal.returns-in-Some-clause-asks
returns-in-Some-clause-asks g c =
    seeks_some (hashes g.H.BlockHash.hash64 g.H.BlockHash.hash128) g.S.FrameSource.bytes g.S.FrameSource.reads c.args.table.now c.args.key.now c.blocks_passed-index.result c.blocks_passed-index.ensures c.in_ok-left.left.window c.seek_upper.new.self.window _
    c.in_ok-left.ensures.block c.in_ok-left.ensures.whole c.seek_upper.ensures.step.step_is c.entries_at.new.table c.in_ok-held.held c.in-Some.open c.in-Some.is c.in_ok-held.ensures.held c.in_ok-left.ensures.asks (returns-in-Some-clause-back g c)

pub returns-in-None-clause-asks : goal.returns-in-None-clause-asks
returns-in-None-clause-asks g c =
    seeks_before (hashes g.H.BlockHash.hash64 g.H.BlockHash.hash128) g.S.FrameSource.bytes g.S.FrameSource.reads c.args.table.now c.args.key.now c.blocks_passed-index.result c.blocks_passed-index.ensures c.in_ok-left.left.window c.seek_upper.new.self.window _
    c.in_ok-left.ensures.block c.in_ok-left.ensures.whole c.seek_upper.ensures.step.step_is c.entries_at.new.table c.open_back-in-None.new.table c.in_ok-left.ensures.same c.in_ok-held.held c.open_back-in-None.result c.in-None.is c.in_ok-held.ensures.held
    c.in_ok-left.ensures.asks c.open_back-in-None.ensures.asks (returns-in-None-clause-back g c)
