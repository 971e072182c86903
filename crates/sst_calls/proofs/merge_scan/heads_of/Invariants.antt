use Rattle.std.proofs.Common.{◌≡◌, Some, take}
use Rattle.sst_sources.specs.Sources.{lists_left}
use Rattle.sst_calls.specs.Placed.{placed_lists}
use Rattle.sst_calls.proofs.merge_scan.heads_of.Given as goal

abbrev pub invariant-loop-i : goal.invariant-loop-i
invariant-loop-i l = lists_left l.heads.items ≡ Some (take l.i (placed_lists 0 l.runs l.windows))
