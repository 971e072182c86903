use Rattle.std.proofs.Common.{false}
use Rattle.sstable_blocks.specs.RunChecks.{check_entries}
use Rattle.sstable_blocks.proofs.Checks.RunCheckSteps.{AreLeft}
use Rattle.sstable_blocks.proofs.run.checking.check_entries.Given as goal

abbrev pub invariant-loop-entry : goal.invariant-loop-entry
invariant-loop-entry g l = AreLeft g.H.BlockHash.hash64 l.filter l.handle (check_entries g.H.BlockHash.hash64 l.filter l.handle false l.fn.range l.block.items) l.ends l.least l.greatest l.entry-iterator
