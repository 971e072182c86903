use Rattle.std.proofs.Common.{◌-◌, length}
use Rattle.sstool.proofs.parted.test_each.Given as goal

abbrev pub decreases-loop-number : goal.decreases-loop-number
decreases-loop-number g l = length l.index.items - l.number
