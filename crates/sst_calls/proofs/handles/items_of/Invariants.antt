use Rattle.std.proofs.Common.{◌≡◌, take, map}
use Rattle.std.specs.List.{AllByRecursion}
use Rattle.sst_calls.specs.Index.{handle_given, HasEndKey}
use Rattle.sst_calls.proofs.handles.items_of.Given as goal

abbrev pub invariant-loop-handle : goal.invariant-loop-handle
invariant-loop-handle l = (l.items.items ≡ map handle_given (take l.handle-index l.given)) × AllByRecursion HasEndKey (take l.handle-index l.given)
