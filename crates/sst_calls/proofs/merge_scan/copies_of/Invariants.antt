use Rattle.std.proofs.Common.{◌≡◌, take}
use Rattle.sst_calls.proofs.merge_scan.copies_of.Given as goal

abbrev pub invariant-loop-window : goal.invariant-loop-window
invariant-loop-window l = l.copies.items ≡ take l.window-index l.windows
