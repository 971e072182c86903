-- The types of blocks.
pub use Rattle.sst_base.specs.declared.table.block.block_type.BlockType.{BlockType}
pub use Rattle.sst_base.specs.declared.table.block.block_type.BlockType.TheVariants.{Data, Index, Filter, Meta}
