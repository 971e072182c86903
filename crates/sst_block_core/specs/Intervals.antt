-- What contracts see of the restart intervals of a block: the heads by the binary index, other items from their head on.
use Rattle.std.specs.Prelude.{◌≡◌, ℕ, ◌+◌, ◌*◌, ◌/◌, ◌%◌, ◌<◌, ◌≤◌, ◌^◌, if◌then◌else◌, zero, suc, Bool, true, false, List, length, slice_index, slice_get, Option, Some}
use Rattle.std.specs.Borrow.{Bor}
use Rattle.std.specs.Ordering.{nat_cmp, is_eq}
use Rattle.std.specs.Cmp.Lexicographic.{slice_cmp}
use Rattle.sst_base.specs.Counted.{Counted}
use Rattle.sst_base.specs.SharedPrefix.{shared_prefix_length}
use Rattle.sst_block_core.specs.Kind.{Kind}
use Rattle.sst_block_core.specs.Body.{place_offset}
use Rattle.sst_block_core.specs.Pointers.{head_count}
use Rattle.sst_block_core.specs.Scan.{Listed, IsPlaceAfter, IsPlace}
use Rattle.sst_block_core.specs.Window.{Window, Answer, found, passes, count_passed, is_past_all, picked_head}
use Rattle.sst_block_core.specs.declared.table.block.place.Place.{Place}

-- a payload, and what was counted of it so far
pub record FormReaderParts : Type 0 where
  pub payload : List ℕ
  pub steps : Counted

-- a block's list, and what was counted of it so far
pub record IntervalsParts (X : Type 0) : Type 0 where
  pub list : Listed X
  pub steps : Counted

-- the limits that every block is within
pub record IsListed {X : Type 0} (list : Listed X) : Type 0 where
  pub interval_some : 0 < list.interval
  pub interval_fits : list.interval ≤ 255
  pub some : 0 < length list.items
  pub few : length list.items < 2 ^ 32
  pub fits : length list.payload < 2 ^ 32

-- the pointers of a binary index lead to the heads of a block
pub record IsIndexed {X : Type 0} (kind : Kind X) (list : Listed X) (pointers : List ℕ) (count : ℕ) : Type 0 where
  pub listed : IsListed list
  pub item_count : count ≡ length list.items
  pub head_total : length pointers ≡ head_count list.interval (length list.items)
  pub are_heads : (j : ℕ) → j * list.interval < length list.items → IsPlace kind list (record { index = j * list.interval; phase = 0; offset = slice_index pointers j; base = 0 })
  pub offsets : (j : ℕ) → j * list.interval < length list.items → slice_index pointers j ≡ place_offset kind list.interval list.items (j * list.interval)

-- the number of binary digits, if they are no more than the fuel
abbrev pub digits_within : ℕ → ℕ → ℕ
digits_within zero n = 0
digits_within (suc fuel) zero = 0
digits_within (suc fuel) (suc n) = digits_within fuel (suc n / 2) + 1

-- the number of binary digits, 0 for 0
abbrev pub digits : ℕ → ℕ
digits n = digits_within n n

-- at the head of interval j a predicate returned b
pub record Answered {X : Type 0} (kind : Kind X) (post : Bor (List ℕ) → ℕ → Bool → Type 0) (r : ℕ) (items : List X) (j : ℕ) (b : Bool) : Type 0 where
  pub item : X
  pub there : slice_get items (j * r) ≡ Some item
  pub key : Bor (List ℕ)
  pub is : key.now ≡ kind.key item
  pub got : post key (kind.seqno item) b

-- each result of a predicate at the head of interval j is b
abbrev pub Answers : {X : Type 0} → Kind X → (Bor (List ℕ) → ℕ → Bool → Type 0) → ℕ → List X → ℕ → Bool → Type 0
Answers kind post r items j b = (x : _) (key : Bor (List ℕ)) (got : Bool) → slice_get items (j * r) ≡ Some x → key.now ≡ kind.key x → post key (kind.seqno x) got → got ≡ b

-- a predicate is true at the first p of this many heads, and false at the others
pub record Splits {X : Type 0} (kind : Kind X) (post : Bor (List ℕ) → ℕ → Bool → Type 0) (r : ℕ) (items : List X) (heads p : ℕ) : Type 0 where
  pub bound : p ≤ heads
  pub first : (j : ℕ) → j < p → Answers kind post r items j true
  pub others : (j : ℕ) → p ≤ j → j < heads → Answers kind post r items j false

-- from the head that is picked where a predicate holds of the first p heads, or from the end where all are passed
abbrev pub seek_picked : {X : Type 0} → ℕ → Bool → ℕ → Window X → Window X × Answer X
seek_picked r second p w =
    let c = head_count r (length w.list) in
    if is_past_all second r p c then (record w { lo = length w.list }, found false)
    else (record w { lo = picked_head second p c * r }, found true)

-- A search has reached a place after the head of its interval, which the bound passes and which shares so many bytes
-- with the needle: all items before it pass, and there is no head from it up to an end.
pub record IsEntered {X : Type 0} (kind : Kind X) (needle : List ℕ) (from : Option ℕ) (list : Listed X) (at : Place) (shared end : ℕ) : Type 0 where
  pub index : ℕ
  pub before : index < at.index
  pub head : X
  pub there : slice_get list.items index ≡ Some head
  pub passed : passes needle from (kind.key head) (kind.seqno head) ≡ true
  pub shared_is : shared ≡ shared_prefix_length (kind.key head) needle
  pub is_place : IsPlaceAfter kind list at (kind.key head)
  pub reached : at.index ≤ count_passed kind needle from list.items
  pub upto : at.index ≤ end
  pub inside : end ≤ length list.items
  pub no_head : (i : ℕ) → at.index ≤ i → i < end → 0 < i % list.interval

-- an item by its ranges is the one at an index of a list, and has this key
pub record IsFoundAt {X P : Type 0} (item_of : List ℕ → P → X) (is_found : List ℕ → P → Type 0) (kind : Kind X) (needle : List ℕ) (list : Listed X) (place : ℕ) (p : P) : Type 0 where
  pub there : slice_get list.items place ≡ Some (item_of list.payload p)
  pub found : is_found list.payload p
  pub same_key : is_eq (slice_cmp nat_cmp (kind.key (item_of list.payload p)) needle) ≡ true
