-- Keys by their ranges of a payload.
use Rattle.std.specs.Prelude.{◌≡◌, ℕ, ◌-◌, List, ◌++◌, take, Option, Some, None}
use Rattle.std.specs.declared.cmp.Ordering.{Ordering}
use Rattle.sst_base.specs.Order.{versions_cmp}
use Rattle.sst_base.specs.declared.table.util.SliceIndexes.{SliceIndexes}
use Rattle.sst_block_core.specs.Kind.{Kind}
use Rattle.sst_block_core.specs.Found.{range_bytes, IsRange}
use Rattle.sst_block_core.specs.declared.table.block.check.keys.KeyRanges.{KeyRanges}
use Rattle.sst_block_core.specs.declared.table.block.check.keys.KeyVersion.{KeyVersion}

-- the key: a prefix, and what is after it
abbrev pub key_by : List ℕ → KeyRanges → List ℕ
key_by payload k = range_bytes payload k.prefix ++ range_bytes payload k.rest

-- both ranges lie in a payload
pub record IsKeyRanges (payload : List ℕ) (k : KeyRanges) : Type 0 where
  pub prefix : IsRange payload k.prefix
  pub rest : IsRange payload k.rest

-- some bytes begin with those of a range of a payload
abbrev pub HasFront : List ℕ → SliceIndexes → List ℕ → Type 0
HasFront payload front bytes = take (front.1 - front.0) bytes ≡ range_bytes payload front

-- the order of versions: by key rising, then by sequence number falling
abbrev pub version_cmp : List ℕ → KeyVersion → KeyVersion → Ordering
version_cmp payload = versions_cmp (λ v. key_by payload v.key) (λ v. v.seqno)

-- the key and the sequence number of an item
pub record IsVersion {X : Type 0} (kind : Kind X) (payload : List ℕ) (x : X) (v : KeyVersion) : Type 0 where
  pub ranges : IsKeyRanges payload v.key
  pub key : kind.key x ≡ key_by payload v.key
  pub seqno : kind.seqno x ≡ v.seqno

-- the empty key with the greatest sequence number: no item sorts before it
abbrev pub least_version : KeyVersion
least_version = record { key = record { prefix = record { 0 = 0; 1 = 0 }; rest = record { 0 = 0; 1 = 0 } }; seqno = 18446744073709551615 }

-- the key and the sequence number of the last item; the least version where there is none
abbrev pub IsLast : {X : Type 0} → Kind X → List ℕ → KeyVersion → Option X → Type 0
IsLast kind payload v None = v ≡ least_version
IsLast kind payload v (Some x) = IsVersion kind payload x v
