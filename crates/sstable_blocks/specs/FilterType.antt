-- The bytes of the types of filters.
use Rattle.std.specs.Prelude.{ℕ, nat_eq, if◌then◌else◌, Result, Ok, Err}
use Rattle.sst_base.specs.declared.error.Error.{Error}
use Rattle.sst_base.specs.declared.error.Error.TheVariants.{InvalidTag}
use Rattle.sst_base.specs.declared.error.TagName.TheVariants as tags
use Rattle.sstable_blocks.specs.declared.table.filter.filter_type.FilterType.{FilterType}
use Rattle.sstable_blocks.specs.declared.table.filter.filter_type.FilterType.TheVariants.{StandardBloom, BlockedBloom}

-- the byte that stands for a type
abbrev pub filter_type_byte : FilterType → ℕ
filter_type_byte StandardBloom = 0
filter_type_byte BlockedBloom = 1

-- the type that a byte stands for, or the refusal of that byte
abbrev pub filter_type_of : ℕ → Result FilterType Error
filter_type_of byte =
    if nat_eq byte 0 then Ok StandardBloom
    else if nat_eq byte 1 then Ok BlockedBloom
    else Err (InvalidTag tags.FilterType byte)
