-- The types of entries.
pub use Rattle.sst_base.specs.declared.value_type.ValueType.{ValueType}
pub use Rattle.sst_base.specs.declared.value_type.ValueType.TheVariants.{Value, Tombstone, WeakTombstone, Indirection}
