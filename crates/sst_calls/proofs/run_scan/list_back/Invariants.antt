use Rattle.std.proofs.Common.{◌≤◌, reverse}
use Rattle.sst_calls.specs.Batches.{Lists}
use Rattle.sst_calls.proofs.Lists.BlockWindows.{between}
use Rattle.sst_calls.proofs.run_scan.list_back.Given as goal

abbrev pub invariant-loop-at : goal.invariant-loop-at
invariant-loop-at l = record {
  range : (l.fn.from ≤ l.at) × (l.at ≤ l.fn.to);
  lists : Lists l.fn.bytes l.fn.below (reverse (between l.fn.part.block.items l.at l.fn.to)) l.fn.places l.places l.fn.count l.count;
}

abbrev pub decreases-loop-at : goal.decreases-loop-at
decreases-loop-at l = l.at
