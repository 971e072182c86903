use Rattle.std.proofs.Common.{◌≡◌, ◌≤◌, ◌++◌, length}
use Rattle.std.specs.Prelude.{None}
use Rattle.sstable_blocks.specs.Blocks.{joined}
use Rattle.sst_program.specs.Table.{HaveSize}
use Rattle.sst_program.proofs.TableFiles.Tables.{AreFull}
use Rattle.sst_program.proofs.pack.add_blocks.Given as goal

abbrev pub invariant-loop-rest : goal.invariant-loop-rest
invariant-loop-rest g l = record {
  config : l.run.config ≡ l.initial.run.config;
  start : l.run.start ≡ l.initial.run.start;
  accepting : l.run.refusal ≡ None;
  reliable : g.W.Output.never_fails l.initial.run.writer → g.W.Output.never_fails l.run.writer;
  all : joined l.run.blocks ++ l.rest ≡ l.items;
  sizes : HaveSize l.per_block l.run.blocks;
  full : 1 ≤ length l.rest → AreFull l.per_block l.run.blocks;
}

abbrev pub decreases-loop-rest : goal.decreases-loop-rest
decreases-loop-rest g l = length l.rest
