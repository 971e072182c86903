-- The bytes of the types of entries.
use Rattle.std.specs.Prelude.{◌≡◌, ℕ, ◌⊎◌, nat_eq, if◌then◌else◌, Option, Some, None}
use Rattle.std.specs.Option.{unwrap_or}
use Rattle.sst_base.specs.declared.value_type.ValueType.{ValueType}
use Rattle.sst_base.specs.declared.value_type.ValueType.TheVariants.{Value, Tombstone, WeakTombstone, Indirection}

-- the byte that stands for a type
abbrev pub value_type_byte : ValueType → ℕ
value_type_byte Value = 0
value_type_byte Tombstone = 1
value_type_byte WeakTombstone = 2
value_type_byte Indirection = 4

-- the type that a byte stands for
abbrev pub value_type_of : ℕ → Option ValueType
value_type_of byte =
    if nat_eq byte 0 then Some Value
    else if nat_eq byte 1 then Some Tombstone
    else if nat_eq byte 2 then Some WeakTombstone
    else if nat_eq byte 4 then Some Indirection
    else None

-- the type that a word stands for: that of its byte, a value for any other word
abbrev pub type_of_word : ℕ → ValueType
type_of_word word = unwrap_or (value_type_of word) Value

-- an entry of this type deletes its key
abbrev pub IsTombstone : ValueType → Type 0
IsTombstone value_type = (value_type ≡ Tombstone) ⊎ (value_type ≡ WeakTombstone)
