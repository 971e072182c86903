-- Which entries are tombstones, as a test.
use Rattle.std.specs.Prelude.{Bool, true, false}
use Rattle.sst_base.specs.declared.value_type.ValueType.{ValueType}
use Rattle.sst_base.specs.declared.value_type.ValueType.TheVariants.{Value, Tombstone, WeakTombstone, Indirection}

-- is an entry of this type a tombstone of either kind?
abbrev pub is_tombstone : ValueType → Bool
is_tombstone Value = false
is_tombstone Tombstone = true
is_tombstone WeakTombstone = true
is_tombstone Indirection = false
