use Rattle.std.proofs.Common.{◌≡◌, None, Some, slice_get}
use Rattle.sstable_blocks.specs.RunReading.{hashes}
use Rattle.sst_merge.proofs.Moving.TableEnds.{front_shows, front_shows_none, table_shown}
use Rattle.sst_merge.proofs.movable_table.MovableTableMovableInternalValue.first.Goals as goal

pub returns-in-Some : goal.returns-in-Some
returns-in-Some g c =
    let s = c.self.inside in
    table_shown (hashes g.H.BlockHash.hash64 g.H.BlockHash.hash128) g.S.FrameSource.bytes g.S.FrameSource.reads s.table s.front s.back s.ended c.args.self.now c.self.view_is c.self.invariant
    (λ w. Some c.in-Some.open.held ≡ slice_get w.list w.lo) (λ blocks are. front_shows s.front s.back blocks are c.in-Some.open c.in-Some.is)

pub returns-in-None : goal.returns-in-None
returns-in-None g c =
    let s = c.self.inside in
    table_shown (hashes g.H.BlockHash.hash64 g.H.BlockHash.hash128) g.S.FrameSource.bytes g.S.FrameSource.reads s.table s.front s.back s.ended c.args.self.now c.self.view_is c.self.invariant
    (λ w. None ≡ slice_get w.list w.lo) (λ blocks are. front_shows_none s.front s.back blocks are c.in-None.is)
