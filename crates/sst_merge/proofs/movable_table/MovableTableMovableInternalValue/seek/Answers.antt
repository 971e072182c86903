use Rattle.std.proofs.Common.{false, subst, sym}
use Rattle.std.specs.List.{count_by}
use Rattle.sstable_blocks.specs.Blocks.{joined}
use Rattle.sstable_blocks.specs.RunReading.{hashes}
use Rattle.sst_merge.specs.Movable.{is_sought}
use Rattle.sst_merge.specs.MovableBlocks.{entry_key}
use Rattle.sst_merge.specs.MovableTables.{IsFrontAt, OfBlocks}
use Rattle.sst_merge.proofs.Moving.TableEnds.{kept_sought, unless_known, unless_none}
use Rattle.sst_merge.proofs.movable_table.MovableTableMovableInternalValue.seek.Goals as goal

pub invariant_of-self : goal.invariant_of-self
invariant_of-self g c =
    let s = c.self.inside in
    let found = subst (λ o. OfBlocks (hashes g.H.BlockHash.hash64 g.H.BlockHash.hash128) g.S.FrameSource.bytes s.table (λ blocks. IsFrontAt blocks (count_by (is_sought entry_key c.args.key.now false) (joined blocks)) o)) (sym c.set_end.ensures) c.in-Ok.ensures.front in
    unless_none _ _ s.ended c.in_default.is
    (kept_sought (hashes g.H.BlockHash.hash64 g.H.BlockHash.hash128) g.S.FrameSource.bytes s.table c.seek_front.new.table c.in-Ok.ensures.same s.front s.back c.set_end.new.end (λ blocks. count_by (is_sought entry_key c.args.key.now false) (joined blocks)) (unless_known _ _ s.ended c.in_default.is c.self.invariant) found)
