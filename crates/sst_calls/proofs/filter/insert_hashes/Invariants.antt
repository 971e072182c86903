use Rattle.std.proofs.Common.{◌≡◌, take}
use Rattle.sstable_blocks.specs.Filter.{IsFilterOf}
use Rattle.sst_calls.proofs.filter.insert_hashes.Given as goal

abbrev pub invariant-loop-hash : goal.invariant-loop-hash
invariant-loop-hash l = record {
  inserted : IsFilterOf (take l.hash-index l.hashes) l.builder;
  m : l.builder.m ≡ l.fn.builder.m;
  k : l.builder.k ≡ l.fn.builder.k;
}
