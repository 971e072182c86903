use Rattle.std.specs.List.{AllByRecursion}
use Rattle.sst_calls.specs.Ranges.{key_given, keys_between}
use Rattle.sst_calls.proofs.Lists.Compacting.{AreHeads, IsSafe}
use Rattle.sst_calls.proofs.compact.sources_of.Given as goal

-- the sources have the entries of the runs before the index, and give no error
abbrev pub invariant-loop-run : goal.invariant-loop-run
invariant-loop-run l = record {
  lists : AreHeads (keys_between (key_given l.fn.keys.has_from l.fn.keys.from.now) (key_given l.fn.keys.has_to l.fn.keys.to.now)) l.runs l.run-index l.sources.items;
  errors : AllByRecursion IsSafe l.sources.items;
}
