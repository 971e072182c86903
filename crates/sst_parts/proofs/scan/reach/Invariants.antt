use Rattle.std.proofs.Common.{length}
use Rattle.sstable_blocks.specs.RunReading.{hashes}
use Rattle.sst_parts.proofs.Scanning.Reaching.{IsReached}
use Rattle.sst_parts.proofs.scan.reach.Given as goal

abbrev pub invariant-open : goal.invariant-open
invariant-open g l = IsReached g.S.FrameSource.bytes g.S.FrameSource.failures g.S.FrameSource.reads g.S.FrameSource.is_reliable (hashes g.H.BlockHash.hash64 g.H.BlockHash.hash128) l.fn.back l.fn.unreached l.fn.near l.unreached l.near

abbrev pub decreases-open : goal.decreases-open
decreases-open g l = length l.unreached.handles
