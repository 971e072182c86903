use Rattle.std.proofs.Common.{take}
use Rattle.sst_calls.specs.Given.{AreGiven}
use Rattle.sst_calls.proofs.entries.items_of.Given as goal

abbrev pub invariant-loop-entry : goal.invariant-loop-entry
invariant-loop-entry l = AreGiven (take l.entry-index l.entries) l.items.items
