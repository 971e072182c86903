use Rattle.std.proofs.Common.{◌≡◌, ◌∷◌, []}
use Rattle.sst_sources.specs.Merge.{entry_cmp, merge}
use Rattle.sst_examples.proofs.Stored.Places.{placed}
use Rattle.sst_examples.proofs.store.memory.place_of.Given as goal

-- what is before the index sorts before the version
abbrev pub invariant-loop-at : goal.invariant-loop-at
invariant-loop-at l = merge entry_cmp (l.entry ∷ []) l.memory ≡ placed l.entry l.memory l.at
