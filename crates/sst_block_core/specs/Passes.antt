-- What a pass over a body has read so far, and what it found of it.
use Rattle.std.specs.Prelude.{◌≡◌, ◌↔◌, ℕ, ◌+◌, ◌*◌, ◌%◌, ◌==◌, ◌<◌, ◌≤◌, if◌then◌else◌, Bool, true, IsTrue, List, [], ◌∷◌, length, take, drop, slice_index, slice_set, IfSome, Option, Some, None, ◌⊎◌}
use Rattle.std.specs.List.{AllByRecursion}
use Rattle.sst_base.specs.declared.error.Error.{Error}
use Rattle.sst_base.specs.declared.error.Error.TheVariants.{Truncated, BadTrailer, BadEntry, OutOfOrder, BadIndex, BadHashIndex, Memory}
use Rattle.sst_block_core.specs.Kind.{Kind, IsOrdered}
use Rattle.sst_block_core.specs.Body.{items_at, place_offset}
use Rattle.sst_block_core.specs.Trailer.{Trailer}
use Rattle.sst_block_core.specs.Buckets.{bucket, bucket_byte_with}
use Rattle.sst_block_core.specs.Pointers.{head_count}
use Rattle.sst_block_core.specs.Found.{range_bytes}
use Rattle.sst_block_core.specs.KeyRanges.{IsLast, HasFront}
use Rattle.sst_base.specs.declared.table.util.SliceIndexes.{SliceIndexes}
use Rattle.sst_block_core.specs.Stages.{items_by, HasTrailer, HasParts, HasForms, HasOrder, HasPointers, HasBuckets}
use Rattle.sst_block_core.specs.declared.table.block.check.pass.PassState.{PassState}
use Rattle.sst_block_core.specs.declared.table.block.check.tally.HashedPrefix.{HashedPrefix}
use Rattle.sst_block_core.specs.declared.table.block.check.joined_key.JoinedKey.{JoinedKey}
use Rattle.sst_block_core.specs.declared.table.block.trailer.TrailerNumbers.{TrailerNumbers}

-- the numbers of a trailer, as code has them
abbrev pub trailer_by : TrailerNumbers → Trailer
trailer_by n = record {
  interval = n.interval;
  width = n.width;
  heads = n.heads;
  index_offset = n.index_offset;
  hash_len = n.hash_len;
  hash_offset = n.hash_offset;
  item_count = n.item_count;
}

-- the key of the head before what follows these items, of which the first has index i; `base` is the key before them
abbrev pub base_after : {X : Type 0} → Kind X → ℕ → ℕ → List X → List ℕ → List ℕ
base_after kind r i [] base = base
base_after kind r i (x ∷ xs) base = base_after kind r (i + 1) xs (if (i % r) == 0 then kind.key x else base)

-- the last of some items, if there is one
abbrev pub last_passed : {X : Type 0} → List X → Option X
last_passed [] = None
last_passed (x ∷ []) = Some x
last_passed (x ∷ y ∷ xs) = last_passed (y ∷ xs)

-- decoding as many items from the start of a body gives these, and ends at an offset, after a head with this key
pub record IsReadUpto {X : Type 0} (kind : Kind X) (r : ℕ) (body : List ℕ) (xs : List X) (place offset : ℕ) (base : List ℕ) : Type 0 where
  pub count : place ≡ length xs
  pub inside : offset ≤ length body
  pub reads : items_at kind r 0 place [] body ≡ Some (xs, drop offset body)
  pub base_is : base ≡ base_after kind r 0 xs []

-- each pointer of these items says where its head begins
abbrev pub ArePointed : {X : Type 0} → Kind X → ℕ → List ℕ → List X → Type 0
ArePointed kind r pointers xs = (j : ℕ) → j * r < length xs → slice_index pointers j ≡ place_offset kind r xs (j * r)

-- what a pass found of items: whether they fit, whether they are in order, and whether their pointers are right
pub record IsJudged {X : Type 0} (kind : Kind X) (fits : X → Type 0) (r : ℕ) (pointers : List ℕ) (xs : List X) (all_fit is_ordered is_indexed : Bool) : Type 0 where
  pub fit : IsTrue all_fit ↔ AllByRecursion fits xs
  pub ordered : IsTrue is_ordered ↔ IsOrdered kind xs
  pub indexed : IsTrue is_indexed ↔ ArePointed kind r pointers xs

-- the state of a pass after these items, of which the last head has its key in a range
pub record IsAlong {X : Type 0} (kind : Kind X) (fits : X → Type 0) (r : ℕ) (body pointers : List ℕ) (xs : List X) (base : SliceIndexes) (at : PassState) : Type 0 where
  pub read : IsReadUpto kind r body xs (length xs) at.offset (range_bytes body base)
  pub last_is : IsLast kind body at.last (last_passed xs)
  pub judged : IsJudged kind fits r pointers xs at.passed.all_fit at.passed.is_ordered at.passed.is_indexed

-- the state of a pass after this many items, of which this is known besides
pub record GoesOn {X : Type 0} (kind : Kind X) (fits : X → Type 0) (r : ℕ) (body pointers : List ℕ) (n : ℕ) (base : SliceIndexes) (at : PassState) (known : List X → Type 0) : Type 0 where
  pub items : List X
  pub count : length items ≡ n
  pub along : IsAlong kind fits r body pointers items base at
  pub besides : known items

-- none of this many places from one on is the place of a head
abbrev pub HasNoHead : ℕ → ℕ → ℕ → Type 0
HasNoHead r place len = (k : ℕ) → k < len → (place + k) % r ≡ 0 → ⊥

-- a pass is over: the body is this many forms, and this was found of their items
pub record IsPassed {X : Type 0} (kind : Kind X) (fits : X → Type 0) (r n : ℕ) (body pointers : List ℕ) (all_fit is_ordered is_indexed : Bool) : Type 0 where
  pub items : List X
  pub reads : items_at kind r 0 n [] body ≡ Some (items, [])
  pub judged : IsJudged kind fits r pointers items all_fit is_ordered is_indexed

-- what a pass over the items of a payload whose first two stages hold found of the next ones: the third holds
pub record IsFound {X : Type 0} (kind : Kind X) (fits : X → Type 0) (t : Trailer) (p : List ℕ) (all_fit is_ordered is_indexed : Bool) : Type 0 where
  pub forms : HasForms kind t p
  pub fit : IsTrue all_fit ↔ AllByRecursion fits (items_by kind t p)
  pub ordered : IsTrue is_ordered ↔ HasOrder kind t p
  pub indexed : IsTrue is_indexed ↔ HasPointers kind t p

-- a tally: the bytes of its buckets, the number of heads modulo 2 ^ 8, whether all memory that it requested was
-- allocated, the prefix of the last key, the room for a joined key, and its restart interval until it is noted
pub record TallyState : Type 0 where
  pub table : List ℕ
  pub heads : ℕ
  pub has_memory : Bool
  pub prefix : HashedPrefix
  pub joined : JoinedKey
  pub waiting : Option ℕ

-- a hashed prefix has the hash of its range of a body, if it has one
abbrev pub IsHashed : (List ℕ → ℕ) → List ℕ → HashedPrefix → Type 0
IsHashed hash body prefix = IfSome prefix.hash (λ h. hash (range_bytes body prefix.range) ≡ h)

-- the key that is joined
abbrev pub joined_key : JoinedKey → List ℕ
joined_key joined = take joined.len joined.bytes.items

-- the bytes of buckets, with that of a hash in this restart interval
abbrev pub with_bucket : List ℕ → ℕ → ℕ → List ℕ
with_bucket table hash n = let q = hash % length table in slice_set table q (bucket_byte_with (slice_index table q) n)

-- the bytes of buckets, with that of a key that waits with its restart interval
abbrev pub noted_late : (List ℕ → ℕ) → List ℕ → Option ℕ → List ℕ → List ℕ
noted_late hash table None key = table
noted_late hash table (Some n) key = with_bucket table (hash key) n

-- the room for a joined key begins with its range of a body
abbrev pub IsBegun : List ℕ → JoinedKey → Type 0
IsBegun body joined = HasFront body joined.front joined.bytes.items

-- the bytes of b buckets are the buckets of these items, which have this many heads
pub record IsTallied {X : Type 0} (kind : Kind X) (hash : List ℕ → ℕ) (r b : ℕ) (table : List ℕ) (heads : ℕ) (items : List X) : Type 0 where
  pub count : length table ≡ b
  pub heads_is : heads ≡ head_count r (length items)
  pub buckets : (q : ℕ) → q < b → slice_index table q ≡ bucket kind hash r items b q

-- a tally took the keys of these items of a body: where memory was there and they have at most 254 heads, it has their buckets
abbrev pub HasTallied : {X : Type 0} → Kind X → (List ℕ → ℕ) → ℕ → ℕ → List ℕ → TallyState → List X → Type 0
HasTallied kind hash r b body tally items = tally.has_memory ≡ true → IsHashed hash body tally.prefix × IsBegun body tally.joined
    × (head_count r (length items) ≤ 254 → IsTallied kind hash r b tally.table tally.heads items)

-- why the numbers of a trailer are refused: which of the first two stages fails first
abbrev pub IsPartsRefusal : Trailer → List ℕ → Error → Type 0
IsPartsRefusal t p Truncated = HasTrailer p → ⊥
IsPartsRefusal t p BadTrailer = HasTrailer p × (HasParts t p → ⊥)
IsPartsRefusal t p _ = ⊥

-- why a pass over the items refuses a payload whose first two stages hold: which of the next ones fails first. An item
-- that does not fit has the error that its kind names
abbrev pub IsItemsRefusal : {X : Type 0} → Kind X → (X → Type 0) → Error → Trailer → List ℕ → Error → Type 0
IsItemsRefusal kind fits unfit t p e =
    ((e ≡ BadEntry) × (HasForms kind t p → ⊥))
    ⊎ ((e ≡ unfit) × HasForms kind t p × (AllByRecursion fits (items_by kind t p) → ⊥))
    ⊎ ((e ≡ OutOfOrder) × HasForms kind t p × AllByRecursion fits (items_by kind t p) × (HasOrder kind t p → ⊥))
    ⊎ ((e ≡ BadIndex) × HasForms kind t p × AllByRecursion fits (items_by kind t p) × HasOrder kind t p × (HasPointers kind t p → ⊥))

-- why the stored buckets of a payload are refused, all of whose other stages hold, or that their allocation failed
abbrev pub IsBucketsRefusal : {X : Type 0} → Kind X → (X → Type 0) → (List ℕ → ℕ) → Trailer → List ℕ → Error → Type 0
IsBucketsRefusal kind fits hash t p e =
    ((e ≡ BadHashIndex) × HasForms kind t p × AllByRecursion fits (items_by kind t p) × HasOrder kind t p × HasPointers kind t p × (HasBuckets kind hash t p → ⊥))
    ⊎ ((e ≡ Memory) × (0 < t.hash_len))

-- why the items of a payload or its stored buckets are refused
abbrev pub IsPassRefusal : {X : Type 0} → Kind X → (X → Type 0) → Error → (List ℕ → ℕ) → Trailer → List ℕ → Error → Type 0
IsPassRefusal kind fits unfit hash t p e = IsItemsRefusal kind fits unfit t p e ⊎ IsBucketsRefusal kind fits hash t p e
