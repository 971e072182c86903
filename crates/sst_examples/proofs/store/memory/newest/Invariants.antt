use Rattle.std.proofs.Common.{◌≡◌, drop}
use Rattle.sstable_blocks.specs.Prelude.{entries, first_match}
use Rattle.sst_examples.proofs.store.memory.newest.Given as goal

-- the first match is not before the index
abbrev pub invariant-loop-entry : goal.invariant-loop-entry
invariant-loop-entry l = first_match entries l.key l.seqno l.memory ≡ first_match entries l.key l.seqno (drop l.entry-index l.memory)
