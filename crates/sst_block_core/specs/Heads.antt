-- Tables of heads, and how many heads a bound passes.
use Rattle.std.specs.Prelude.{◌≡◌, ◌≢◌, ℕ, ◌*◌, ◌/◌, ◌≤◌, ◌++◌, List, length, drop, count_by, slice_get, slice_index, Option, Some, Bool, if◌then◌else◌}
use Rattle.std.specs.Ordering.{nat_cmp, ordering_then}
use Rattle.std.specs.Cmp.Lexicographic.{slice_cmp}
use Rattle.std.specs.declared.cmp.Ordering.TheVariants.{Less}
use Rattle.byteorder.specs.Endian.{big_number}
use Rattle.sst_base.specs.Order.{versions_cmp, IsInOrder}
use Rattle.sst_block_core.specs.Kind.{Kind}
use Rattle.sst_block_core.specs.Body.{place_offset}
use Rattle.sst_block_core.specs.Found.{IsRange, range_bytes}
use Rattle.sst_block_core.specs.Passes.{last_passed}
use Rattle.sst_block_core.specs.Pointers.{head_count}
use Rattle.sst_block_core.specs.Scan.{Listed}
use Rattle.sst_block_core.specs.Stages.{items_in}
use Rattle.sst_block_core.specs.Trailer.{trailer_in}
use Rattle.sst_block_core.specs.Window.{passes}
use Rattle.sst_base.specs.declared.table.util.SliceIndexes.{SliceIndexes}
use Rattle.sst_block_core.specs.declared.table.block.heads.Head.{Head}

-- What contracts see of a table of heads: the heads, the range of a prefix that all their keys share, a number for each
-- head, and the capacity in heads.
pub record Table : Type 0 where
  pub heads : List Head
  pub prefix : SliceIndexes
  pub fronts : List ℕ
  pub room : ℕ

-- the first 8 bytes as a big-endian number, fewer than 8 being filled with 00
unfoldable pub front : List ℕ → ℕ
front bytes = big_number 8 bytes

-- a head of an offset, a sequence number and the range of a key
abbrev pub head_of : ℕ → ℕ → SliceIndexes → Head
head_of offset seqno key = record { offset = offset; seqno = seqno; key = key }

-- the key of a head
abbrev pub key_in : List ℕ → Head → List ℕ
key_in payload h = range_bytes payload h.key

-- a key begins with a prefix
abbrev pub Begins : List ℕ → List ℕ → Type 0
Begins prefix key = key ≡ prefix ++ drop (length prefix) key

-- The key of a head lies in the payload and begins with the shared prefix, and its number is the front of what follows
-- the prefix, without the last bit.
pub record IsHead (payload prefix : List ℕ) (h : Head) (number : ℕ) : Type 0 where
  pub range : IsRange payload h.key
  pub begins : Begins prefix (key_in payload h)
  pub front_is : number ≡ front (drop (length prefix) (key_in payload h)) / 2

-- a table of heads of a payload, in order
pub record IsHeadTable (payload : List ℕ) (t : Table) : Type 0 where
  pub prefix_inside : IsRange payload t.prefix
  pub count : length t.fronts ≡ length t.heads
  pub each_is : (j : ℕ) (h : Head) → slice_get t.heads j ≡ Some h → IsHead payload (range_bytes payload t.prefix) h (slice_index t.fronts j)
  pub ordered : IsInOrder (versions_cmp (key_in payload) (λ (h : Head). h.seqno)) t.heads

-- how many heads have a key below the needle, or equal to it with a sequence number of at least `from`
unfoldable pub heads_before : List ℕ → List ℕ → Option ℕ → List Head → ℕ
heads_before payload needle from heads = count_by (λ (h : Head). passes needle from (key_in payload h) h.seqno) heads

-- head j of a block's list
pub record IsHeadOf {X : Type 0} (kind : Kind X) (list : Listed X) (j : ℕ) (x : X) (h : Head) : Type 0 where
  pub key : key_in list.payload h ≡ kind.key x
  pub seqno : h.seqno ≡ kind.seqno x
  pub offset : h.offset ≡ place_offset kind list.interval list.items (j * list.interval)

-- a payload's list
abbrev pub listed_in : {X : Type 0} → Kind X → List ℕ → Listed X
listed_in kind payload = record { payload = payload; interval = (trailer_in payload).interval; items = items_in kind payload }

-- a table of the first n heads of a block's list
pub record IsHeadTableUpto {X : Type 0} (kind : Kind X) (list : Listed X) (n : ℕ) (t : Table) : Type 0 where
  pub sound : IsHeadTable list.payload t
  pub count : length t.heads ≡ n
  pub same : (j : ℕ) (x : X) (h : Head) → slice_get list.items (j * list.interval) ≡ Some x → slice_get t.heads j ≡ Some h → IsHeadOf kind list j x h

-- a table of all heads of a block's list
abbrev pub IsHeadTableOf : {X : Type 0} → Kind X → Listed X → Table → Type 0
IsHeadTableOf kind list t = IsHeadTableUpto kind list (head_count list.interval (length list.items)) t

-- the keys of all heads of a block's list begin with a prefix
abbrev pub HeadsBegin : {X : Type 0} → Kind X → Listed X → List ℕ → Type 0
HeadsBegin {X} kind list prefix = (j : ℕ) (x : X) → slice_get list.items (j * list.interval) ≡ Some x → Begins prefix (kind.key x)

-- whether a bound passes head j
pub record IsHeadPassed (payload needle : List ℕ) (from : Option ℕ) (heads : List Head) (j : ℕ) (b : Bool) : Type 0 where
  pub head : Head
  pub there : slice_get heads j ≡ Some head
  pub is : passes needle from (key_in payload head) head.seqno ≡ b

-- 1 if a bound passes head j, and else 0
pub record IsHeadPassedBit (payload needle : List ℕ) (from : Option ℕ) (heads : List Head) (j bit : ℕ) : Type 0 where
  pub answer : Bool
  pub tells : IsHeadPassed payload needle from heads j answer
  pub is : bit ≡ (if answer then 1 else 0)

-- an item doesn't sort before a head
abbrev pub FollowsHead : {X : Type 0} → Kind X → List ℕ → Head → X → Type 0
FollowsHead kind payload last x = ordering_then (slice_cmp nat_cmp (kind.key x) (key_in payload last)) (nat_cmp last.seqno (kind.seqno x)) ≢ Less

-- an item can be the next head of a table: its key begins with the table's prefix, and it doesn't sort before the last head
pub record IsNextHead {X : Type 0} (kind : Kind X) (payload : List ℕ) (t : Table) (x : X) : Type 0 where
  pub begins : Begins (range_bytes payload t.prefix) (kind.key x)
  pub order : (last : Head) → last_passed t.heads ≡ Some last → FollowsHead kind payload last x

-- a table has the prefix that it had, and no less capacity
pub record KeepsPrefixAndRoom (old new : Table) : Type 0 where
  pub prefix : new.prefix ≡ old.prefix
  pub room : old.room ≤ new.room
