use Rattle.sst_calls.proofs.Lists.Fronts.{IsFilled}
use Rattle.sst_calls.proofs.fronts.write_fronts.Given as goal

abbrev pub invariant-loop-handle : goal.invariant-loop-handle
invariant-loop-handle l = IsFilled l.prefix l.fn.handles l.handle-iterator l.at l.fn.fronts l.fronts
