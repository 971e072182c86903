-- What is encoded at the start of bytes: a value, and the bytes after it.
use Rattle.std.specs.Prelude.{ℕ, ◌∷◌, [], ◌++◌, List, length, take, drop, nat_le, if◌then◌else◌, Option, Some, None}
use Rattle.sst_base.specs.Varint.{varint, varint_at}
use Rattle.sst_base.specs.declared.value_type.ValueType.{ValueType}
use Rattle.sst_base.specs.ValueType.{value_type_of}

-- one reading after another
infixl 10 ◌>>=◌
abbrev pub ◌>>=◌ : {A B : Type 0} → Option A → (A → Option B) → Option B
(Some x) >>= f = f x
None >>= f = None

-- a byte string after its length
abbrev pub length_prefixed : List ℕ → List ℕ
length_prefixed bytes = varint (length bytes) ++ bytes

-- a value type
abbrev pub value_type_at : List ℕ → Option (ValueType × List ℕ)
value_type_at [] = None
value_type_at (b ∷ bs) = do
  value_type ← value_type_of b
  Some (value_type, bs)

-- a number below 2 ^ bits
unfoldable pub number_at : ℕ → List ℕ → Option (ℕ × List ℕ)
number_at bits bytes = do
  n ← varint_at bits bytes
  Some (n.0, drop n.1 bytes)

-- a length below 2 ^ bits, and that many bytes
unfoldable pub length_prefixed_at : ℕ → List ℕ → Option (List ℕ × List ℕ)
length_prefixed_at bits bytes = do
  n ← number_at bits bytes
  if nat_le n.0 (length n.1) then Some (take n.0 n.1, drop n.0 n.1) else None
