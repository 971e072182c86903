use Rattle.std.proofs.Common.{◌-◌, length}
use Rattle.sstool.proofs.blocks.print_parts.Given as goal

abbrev pub decreases-loop-number : goal.decreases-loop-number
decreases-loop-number g l = length l.table.tops - l.number
