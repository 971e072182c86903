-- The arguments of each command.
use Rattle.std.specs.Prelude.{ℕ, List}
use Rattle.sstable_blocks.specs.declared.run.RunConfig.{RunConfig}

-- the arguments of `point`: the restart interval, the needle and the exclusive upper bound of sequence numbers
pub record Query : Type 0 where
  pub interval : ℕ
  pub needle : List ℕ
  pub seqno : ℕ

-- the arguments of `pack`: the file, how the run is written, and the number of entries in a block
pub record Packing : Type 0 where
  pub file : List ℕ
  pub config : RunConfig
  pub per_block : ℕ

-- the arguments of `get`: the file, the needle and the exclusive upper bound of sequence numbers
pub record Lookup : Type 0 where
  pub file : List ℕ
  pub needle : List ℕ
  pub seqno : ℕ
