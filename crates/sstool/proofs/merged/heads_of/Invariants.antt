use Rattle.std.proofs.Common.{◌≡◌, length}
use Rattle.sstool.proofs.merged.heads_of.Given as goal

abbrev pub invariant-loop-index : goal.invariant-loop-index
invariant-loop-index g l = length l.heads.items ≡ l.index
