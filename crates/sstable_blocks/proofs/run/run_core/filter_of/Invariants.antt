use Rattle.std.proofs.Common.{◌≡◌, take}
use Rattle.sstable_blocks.specs.Filter.{IsFilterOf}
use Rattle.sstable_blocks.proofs.run.run_core.filter_of.Given as goal

abbrev pub invariant-loop-hash : goal.invariant-loop-hash
invariant-loop-hash l = record {
  m : l.builder.m ≡ l.initial.builder.m;
  k : l.builder.k ≡ l.initial.builder.k;
  inserted : IsFilterOf (take l.hash-index l.hashes) l.builder;
}
