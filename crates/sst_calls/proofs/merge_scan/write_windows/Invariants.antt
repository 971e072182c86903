use Rattle.std.proofs.Common.{◌≡◌, take}
use Rattle.sst_calls.proofs.merge_scan.write_windows.Given as goal

abbrev pub invariant-loop-i : goal.invariant-loop-i
invariant-loop-i l = take l.i l.windows ≡ take l.i l.from
