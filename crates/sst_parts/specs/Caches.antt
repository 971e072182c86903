-- A cache, which tables share: what it keeps of ranges of their sources.
use Rattle.std.specs.Prelude.{◌≡◌, ◌⊎◌, ℕ, ◌+◌, ◌-◌, ◌%◌, ◌^◌, ◌<◌, ◌≤◌, ◌&&◌, nat_eq, nat_le, if◌then◌else◌, Bool, List, [], ◌∷◌, ◌++◌, length, slice_get, Option, Some, None, IsSomeAnd}
use Rattle.std.specs.List.{AllByRecursion}
use Rattle.std.specs.Map.{lookup}
use Rattle.lru.specs.LruCache.{promoted}
use Rattle.sstable_blocks.specs.Prelude.{HandleParts}

-- what the number of a table stands for: the bytes of its source, if these are known
abbrev pub Origin : Type 0
Origin = Option (List ℕ)

-- a place: the number of a table, and the offset and the size of a range of its source
abbrev pub Place : Type 0
Place = ℕ × (ℕ × ℕ)

-- the place of a range, and the range of a place
abbrev pub place_at : ℕ → HandleParts → Place
place_at number h = (number, (h.offset, h.size))

abbrev pub range_in : Place → HandleParts
range_in place = record { offset = place.1.0; size = place.1.1 }

-- what is kept of a place
abbrev pub Kept : Type 0 → Type 0
Kept V = Place × V

-- what contracts see of a cache: what is kept, the most recently used first; the most bytes that it may have; how often
-- something was there, and how often it was not; how often it was not kept, since it has more bytes, and since an
-- allocation failed, each modulo 2^64; and what the numbers of its tables stand for
pub record CacheParts (V : Type 0) : Type 0 where
  pub kept : List (Kept V)
  pub most : ℕ
  pub hits : ℕ
  pub misses : ℕ
  pub oversized : ℕ
  pub failed : ℕ
  pub tables : List Origin

-- a cache that keeps nothing, of no table
abbrev pub empty_cache : {V : Type 0} → ℕ → CacheParts V
empty_cache most = record { kept = []; most = most; hits = 0; misses = 0; oversized = 0; failed = 0; tables = [] }

-- the next number was given to a table, whose source has these bytes, if they are known
abbrev pub IsGiven : {V : Type 0} → CacheParts V → Origin → CacheParts V → Type 0
IsGiven old o new = new ≡ record old { tables = old.tables ++ o ∷ [] }

-- one more, modulo 2^64
abbrev pub one_more : ℕ → ℕ
one_more n = (n + 1) % 2 ^ 64

-- is this the place?
abbrev pub is_place : Place → Place → Bool
is_place place other = nat_eq place.0 other.0 && (nat_eq place.1.0 other.1.0 && nat_eq place.1.1 other.1.1)

-- what is kept of a place
abbrev pub kept_at : {V : Type 0} → List (Kept V) → Place → Option V
kept_at kept place = lookup (is_place place) kept

-- what is kept of a place is the most recently used
abbrev pub IsLatest : {V : Type 0} → List (Kept V) → Place → Type 0
IsLatest [] place = ⊥
IsLatest (e ∷ es) place = e.0 ≡ place

-- the bytes of all that is kept
abbrev pub kept_bytes : {V : Type 0} → (V → ℕ) → List (Kept V) → ℕ
kept_bytes size [] = 0
kept_bytes size (e ∷ es) = size e.1 + kept_bytes size es

-- the most recently used that have at most so many bytes: what is left where the least recently used go
abbrev pub fitting : {V : Type 0} → (V → ℕ) → ℕ → List (Kept V) → List (Kept V)
fitting size room [] = []
fitting size room (e ∷ es) = if nat_le (size e.1) room then e ∷ fitting size (room - size e.1) es else []

-- what is kept is what is in its range of the source of its table
abbrev pub IsKept : {V : Type 0} → (Option (List ℕ) → HandleParts → V → Type 0) → List Origin → Kept V → Type 0
IsKept is_of tables e = IsSomeAnd (slice_get tables e.0.0) (λ o. is_of o (range_in e.0) e.1)

-- what always holds of a cache, with the bytes that it keeps and the number of its tables
pub record IsCache {V : Type 0} (is_of : Option (List ℕ) → HandleParts → V → Type 0) (size : V → ℕ) (bytes tables : ℕ) (cap : ℕ) (v : CacheParts V) : Type 0 where
  pub bytes_are : bytes ≡ kept_bytes size v.kept
  pub fits : bytes ≤ v.most
  pub unbounded : cap ≡ 2 ^ 64 - 1
  pub tables_are : tables ≡ length v.tables
  pub all : AllByRecursion (IsKept is_of v.tables) v.kept

-- after a look-up of a place where this is kept: it is the most recently used, and it is counted whether it was there
abbrev pub looked_up : {V : Type 0} → CacheParts V → Place → Option V → CacheParts V
looked_up c place (Some b) = record c { kept = promoted (is_place place) c.kept; hits = one_more c.hits }
looked_up c place None = record c { misses = one_more c.misses }

-- What was read is kept, before the most recently used others that fit beside it. It is not, and that is counted, where it
-- has too many bytes, or where an allocation fails, after room was made for it.
abbrev pub Keeps : {V : Type 0} → (V → ℕ) → CacheParts V → Place → V → CacheParts V → Type 0
Keeps size old place b new =
    ((size b ≤ old.most) × (new ≡ record old { kept = (place, b) ∷ fitting size (old.most - size b) old.kept }))
    ⊎ (((old.most < size b) × (new ≡ record old { oversized = one_more old.oversized }))
    ⊎ ((size b ≤ old.most) × (new ≡ record old { kept = fitting size (old.most - size b) old.kept; failed = one_more old.failed })))

-- what is in the range of a place is read and kept
abbrev pub KeepsNew : {V : Type 0} → (Option (List ℕ) → HandleParts → V → Type 0) → (V → ℕ) → CacheParts V → Place → CacheParts V → Type 0
KeepsNew {V} is_of size old place new = (b : V) × IsKept is_of old.tables (place, b) × Keeps size old place b new
