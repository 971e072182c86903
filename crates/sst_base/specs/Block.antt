-- Blocks in memory: a header and the payload that it describes.
use Rattle.std.specs.Prelude.{ℕ, List}
use Rattle.sst_base.specs.declared.table.block.header.Header.{Header}

pub record BlockParts : Type 0 where
  pub header : Header
  pub payload : List ℕ
