use Rattle.std.proofs.Common.{length}
use Rattle.sstable_blocks.specs.RunReading.{hashes}
use Rattle.sst_parts.proofs.Scanning.RefSteps.{IsTurned}
use Rattle.sst_parts.proofs.ref_scan.turn.Given as goal

abbrev pub invariant-open : goal.invariant-open
invariant-open g l = IsTurned (hashes g.H.BlockHash.hash64 g.H.BlockHash.hash128) l.fn.back l.fn.unreached l.fn.near l.unreached l.near

abbrev pub decreases-open : goal.decreases-open
decreases-open g l = length l.unreached.handles
