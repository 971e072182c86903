use Rattle.std.proofs.Common.{◌≡◌, length}
use Rattle.sst_tool.specs.Keys.{prefix_end}
use Rattle.sst_tool.proofs.keys.prefix_end.Given as goal

abbrev pub decreases-loop-last : goal.decreases-loop-last
decreases-loop-last l = length l.end.items

abbrev pub invariant-loop-last : goal.invariant-loop-last
invariant-loop-last l = prefix_end l.prefix ≡ prefix_end l.end.items
