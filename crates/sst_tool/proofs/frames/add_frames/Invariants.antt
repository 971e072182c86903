use Rattle.std.proofs.Common.{◌-◌}
use Rattle.sst_tool.proofs.frames.add_frames.Given as goal

abbrev pub decreases-loop-at : goal.decreases-loop-at
decreases-loop-at g l = l.end - l.at
