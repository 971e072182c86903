-- Internal keys: a user key at a sequence number.
use Rattle.std.specs.Prelude.{ℕ, ◌<◌, ◌≤◌, ◌^◌, List, length}
use Rattle.sst_base.specs.declared.value_type.ValueType.{ValueType}

pub record Key : Type 0 where
  pub user_key : List ℕ
  pub seqno : ℕ
  pub value_type : ValueType

-- the limits of a key: at most 65535 bytes, and a sequence number of 64 bits
pub record IsKey (k : Key) : Type 0 where
  pub user_key : length k.user_key ≤ 65535
  pub seqno : k.seqno < 2 ^ 64
