use Rattle.std.proofs.Common.{◌-◌, length}
use Rattle.sst_tool.proofs.whole.number_at.Given as goal

abbrev pub decreases-loop-number : goal.decreases-loop-number
decreases-loop-number l = length l.index.items - l.number
