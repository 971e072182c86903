-- The bytes of the types of blocks.
use Rattle.std.specs.Prelude.{ℕ, nat_eq, if◌then◌else◌, Result, Ok, Err}
use Rattle.sst_base.specs.declared.table.block.block_type.BlockType.{BlockType}
use Rattle.sst_base.specs.declared.table.block.block_type.BlockType.TheVariants.{Data, Index, Filter, Meta}
use Rattle.sst_base.specs.declared.error.Error.{Error}
use Rattle.sst_base.specs.declared.error.Error.TheVariants.{InvalidTag}
use Rattle.sst_base.specs.declared.error.TagName.TheVariants as tags

-- the byte that stands for a type
abbrev pub block_type_byte : BlockType → ℕ
block_type_byte Data = 0
block_type_byte Index = 1
block_type_byte Filter = 2
block_type_byte Meta = 3

-- the type that a byte stands for, or the error for that byte
abbrev pub block_type_of : ℕ → Result BlockType Error
block_type_of byte =
    if nat_eq byte 0 then Ok Data
    else if nat_eq byte 1 then Ok Index
    else if nat_eq byte 2 then Ok Filter
    else if nat_eq byte 3 then Ok Meta
    else Err (InvalidTag tags.BlockType byte)
