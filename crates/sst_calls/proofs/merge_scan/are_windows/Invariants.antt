use Rattle.std.proofs.Common.{map, take}
use Rattle.sst_calls.specs.MergeBatches.{AreWindows}
use Rattle.sst_calls.specs.Placed.{run_blocks}
use Rattle.sst_calls.proofs.merge_scan.are_windows.Given as goal

abbrev pub invariant-loop-i : goal.invariant-loop-i
invariant-loop-i l = AreWindows (map run_blocks (take l.i l.runs)) (take l.i l.windows)
