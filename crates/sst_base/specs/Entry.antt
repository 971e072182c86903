-- Entries: an internal key and its value.
use Rattle.std.specs.Prelude.{ℕ, ◌<◌, ◌≤◌, ◌^◌, List, [], length}
use Rattle.sst_base.specs.declared.value_type.ValueType.{ValueType}
use Rattle.sst_base.specs.declared.value_type.ValueType.TheVariants.{Value, Tombstone, WeakTombstone, Indirection}
use Rattle.sst_base.specs.Key.{Key}

pub record Entry : Type 0 where
  pub key : Key
  pub value : List ℕ

-- the limits of an entry: a key of 1 to 65535 bytes, a sequence number of 64 bits, a value of at most 2 ^ 32 - 1 bytes
pub record IsEntry (e : Entry) : Type 0 where
  pub some : 1 ≤ length e.key.user_key
  pub user_key : length e.key.user_key ≤ 65535
  pub seqno : e.key.seqno < 2 ^ 64
  pub value : length e.value < 2 ^ 32

-- its key and its value are held in place, so a copy takes no memory
abbrev pub IsShort : Entry → Type 0
IsShort e = (length e.key.user_key ≤ 40) × (length e.value ≤ 40)

-- the value of an entry that was written and read: a tombstone has none
abbrev pub plain_value : ValueType → List ℕ → List ℕ
plain_value Value value = value
plain_value Tombstone value = []
plain_value WeakTombstone value = []
plain_value Indirection value = value

-- the entry as decoded: without a tombstone's value
abbrev pub plain : Entry → Entry
plain e = record { key = e.key; value = plain_value e.key.value_type e.value }
