use Rattle.std.proofs.Common.{◌≡◌, Some}
use Rattle.sstable_blocks.specs.RunReading.{hashes}
use Rattle.sst_merge.specs.Movable.{item_before}
use Rattle.sst_merge.proofs.Moving.TableEnds.{back_shows, table_shown}
use Rattle.sst_merge.proofs.movable_table.MovableTableMovableInternalValue.last.Goals as goal

pub returns-in-Some : goal.returns-in-Some
returns-in-Some g c =
    let s = c.self.inside in
    table_shown (hashes g.H.BlockHash.hash64 g.H.BlockHash.hash128) g.S.FrameSource.bytes g.S.FrameSource.reads s.table s.front s.back s.ended c.args.self.now c.self.view_is c.self.invariant
    (λ w. Some c.in-Some.open.held ≡ item_before w.list w.hi) (λ blocks are. back_shows s.front s.back blocks are c.in-Some.open c.in-Some.is)
