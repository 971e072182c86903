use Rattle.std.proofs.Common.{◌≡◌, ◌++◌}
use Rattle.sst_parts.proofs.merging.handles_of.Given as goal

abbrev pub invariant-loop-handle : goal.invariant-loop-handle
invariant-loop-handle l = l.handles.items ++ l.handle-iterator ≡ l.index.items
