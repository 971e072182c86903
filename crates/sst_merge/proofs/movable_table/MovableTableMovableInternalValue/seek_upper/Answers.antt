use Rattle.std.proofs.Common.{None, true, subst, sym}
use Rattle.std.specs.List.{count_by}
use Rattle.sstable_blocks.specs.Blocks.{joined}
use Rattle.sstable_blocks.specs.RunReading.{hashes}
use Rattle.sst_merge.specs.Movable.{is_sought}
use Rattle.sst_merge.specs.MovableBlocks.{entry_key}
use Rattle.sst_merge.specs.MovableTables.{AsksByEnds, IsBackAt, OfBlocks}
use Rattle.sst_merge.specs.Moved.{seek_upper_frames}
use Rattle.sst_merge.proofs.Moving.TableEnds.{kept_sought_up, unless_known, unless_none}
use Rattle.sst_merge.proofs.Moving.TableFrames.{counts_frames}
use Rattle.sst_merge.proofs.movable_table.MovableTableMovableInternalValue.seek_upper.Goals as goal

pub invariant_of-self : goal.invariant_of-self
invariant_of-self g c =
    let s = c.self.inside in
    let found = subst (λ o. OfBlocks (hashes g.H.BlockHash.hash64 g.H.BlockHash.hash128) g.S.FrameSource.bytes s.table (λ blocks. IsBackAt blocks (count_by (is_sought entry_key c.args.key.now true) (joined blocks)) o)) (sym c.set_end.ensures) c.in-Ok.ensures.back in
    unless_none _ _ s.ended c.in_default.is
    (kept_sought_up (hashes g.H.BlockHash.hash64 g.H.BlockHash.hash128) g.S.FrameSource.bytes s.table c.seek_back.new.table c.in-Ok.ensures.same s.front s.back c.set_end.new.end (λ blocks. count_by (is_sought entry_key c.args.key.now true) (joined blocks)) (unless_known _ _ s.ended c.in_default.is c.self.invariant) found)

pub returns-in-Ok-clause-asks : goal.returns-in-Ok-clause-asks
returns-in-Ok-clause-asks g c =
    let s = c.self.inside in
    let asked = subst (λ o. AsksByEnds (hashes g.H.BlockHash.hash64 g.H.BlockHash.hash128) g.S.FrameSource.bytes g.S.FrameSource.reads seek_upper_frames s.table c.seek_back.new.table None o) (sym c.set_end.ensures) c.in-Ok.ensures.asks in
    counts_frames (hashes g.H.BlockHash.hash64 g.H.BlockHash.hash128) g.S.FrameSource.bytes g.S.FrameSource.reads s.table c.seek_back.new.table c.in-Ok.ensures.same s.front s.back s.ended c.args.self.now c.self.view_is seek_upper_frames s.front c.set_end.new.end s.ended c.in_default.is asked
