use Rattle.sstable_blocks.specs.RunReading.{hashes}
use Rattle.sst_merge.proofs.Moving.TableEnds.{starts_fresh, starts_kept, starts_later, starts_whole}
use Rattle.sst_merge.proofs.movable_table.MovableTable.new.Goals as goal

pub invariant_of-result : goal.invariant_of-result
invariant_of-result g c = starts_kept (hashes g.H.BlockHash.hash64 g.H.BlockHash.hash128) g.S.FrameSource.bytes c.args.table c.open_ends.new.table c.in_ok-front.ensures.same c.in_ok-front.front c.in_ok-front.back c.in_ok-front.ensures.front c.in_ok-front.ensures.back

pub returns-clause-list : goal.returns-clause-list
returns-clause-list g c = starts_whole (hashes g.H.BlockHash.hash64 g.H.BlockHash.hash128) g.S.FrameSource.bytes c.args.table c.open_ends.new.table c.in_ok-front.ensures.same c.in_ok-front.front c.in_ok-front.back c.in_ok-front.ensures.front c.in_ok-front.ensures.back

pub returns-clause-fresh : goal.returns-clause-fresh
returns-clause-fresh g c = starts_fresh (hashes g.H.BlockHash.hash64 g.H.BlockHash.hash128) g.S.FrameSource.bytes c.args.table c.open_ends.new.table c.in_ok-front.ensures.same c.in_ok-front.front c.in_ok-front.back c.in_ok-front.ensures.front c.in_ok-front.ensures.back

pub returns-clause-starts : goal.returns-clause-starts
returns-clause-starts g c = starts_later (hashes g.H.BlockHash.hash64 g.H.BlockHash.hash128) g.S.FrameSource.bytes c.args.table c.open_ends.new.table c.in_ok-front.ensures.same c.in_ok-front.front c.in_ok-front.back c.in_ok-front.ensures.front c.in_ok-front.ensures.back
