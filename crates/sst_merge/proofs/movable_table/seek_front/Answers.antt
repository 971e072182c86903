use Rattle.std.proofs.Common.{ap, arith, length}
use Rattle.sstable_blocks.specs.RunReading.{hashes}
use Rattle.sst_merge.proofs.Moving.TableEnds.{sought_behind, sought_front}
use Rattle.sst_merge.proofs.Moving.TableFrames.{seeks_one}
use Rattle.sst_merge.proofs.movable_table.seek_front.Goals as goal

pub returns-then-index-len-clause-front : goal.returns-then-index-len-clause-front
returns-then-index-len-clause-front g c = sought_behind (hashes g.H.BlockHash.hash64 g.H.BlockHash.hash128) g.S.FrameSource.bytes c.args.table.now c.args.key.now c.blocks_passed-index.result c.blocks_passed-index.ensures (let e = ap length c.index.ensures.items in omega (arith, e))

pub returns-clause-front : goal.returns-clause-front
returns-clause-front g c =
    sought_front (hashes g.H.BlockHash.hash64 g.H.BlockHash.hash128) g.S.FrameSource.bytes c.args.table.now c.args.key.now c.blocks_passed-index.result c.in_ok-left.left.window c.seek.new.self.window _ c.hold_first.result
    c.blocks_passed-index.ensures c.in_ok-left.ensures.block c.in_ok-left.ensures.whole c.seek.ensures.step.step_is c.hold_first.ensures.held c.hold_first.ensures.whole

pub returns-clause-asks : goal.returns-clause-asks
returns-clause-asks g c =
    seeks_one (hashes g.H.BlockHash.hash64 g.H.BlockHash.hash128) g.S.FrameSource.bytes g.S.FrameSource.reads c.args.table.now c.entries_at.new.table c.args.key.now c.blocks_passed-index.result c.in_ok-left.left.window.list c.hold_first.result
    c.blocks_passed-index.ensures c.in_ok-left.ensures.block c.in_ok-left.ensures.asks (returns-clause-front g c)
