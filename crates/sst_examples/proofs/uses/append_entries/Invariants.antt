use Rattle.std.proofs.Common.{◌≡◌, ◌++◌}
use Rattle.sst_examples.proofs.uses.append_entries.Given as goal

-- what was appended, and what is left to be given, are the entries of the block
abbrev pub invariant-loop-entry : goal.invariant-loop-entry
invariant-loop-entry l = l.out.items ++ l.entry-iterator ≡ l.initial.out.items ++ l.block.items
