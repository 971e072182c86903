use Rattle.sst_calls.proofs.Lists.Fronts.{IsSought}
use Rattle.sst_calls.proofs.fronts.count_below.Given as goal

abbrev pub invariant-loop-size : goal.invariant-loop-size
invariant-loop-size l = IsSought l.numbers l.number l.base l.size

abbrev pub decreases-loop-size : goal.decreases-loop-size
decreases-loop-size l = l.size
