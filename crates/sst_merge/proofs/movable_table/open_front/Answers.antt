use Rattle.std.proofs.Common.{ap, arith, length}
use Rattle.sstable_blocks.specs.RunReading.{hashes}
use Rattle.sst_merge.proofs.Moving.TableEnds.{no_front, opens_front}
use Rattle.sst_merge.proofs.movable_table.open_front.Goals as goal

pub returns-then-index-len-clause-front : goal.returns-then-index-len-clause-front
returns-then-index-len-clause-front g c = no_front (hashes g.H.BlockHash.hash64 g.H.BlockHash.hash128) g.S.FrameSource.bytes c.args.table.now c.args.index (let e = ap length c.index.ensures.items in omega (arith, e))

pub returns-clause-front : goal.returns-clause-front
returns-clause-front g c = opens_front (hashes g.H.BlockHash.hash64 g.H.BlockHash.hash128) g.S.FrameSource.bytes c.args.table.now c.args.index c.in_ok-left.left.window c.hold_first.result c.in_ok-left.ensures.block c.in_ok-left.ensures.whole c.hold_first.ensures.held c.hold_first.ensures.whole
