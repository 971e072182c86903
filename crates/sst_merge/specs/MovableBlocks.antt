-- Lists of entries in blocks, whose ends are moved: each end holds a block that was opened, and an entry of it.
use Rattle.std.specs.Prelude.{◌≡◌, ℕ, suc, ◌+◌, ◌<◌, ◌^◌, Bool, false, List, ◌∷◌, ◌++◌, [], Option, Some, None, length, map, take, drop, slice_get}
use Rattle.std.specs.List.{AllByRecursion}
use Rattle.sstable_blocks.specs.Prelude.{Entry, DataRefParts, entries, IsOrdered, Window}
use Rattle.sstable_blocks.specs.Blocks.{IsNotEmpty, joined}
use Rattle.sst_merge.specs.Movable.{is_sought, item_before}
use Rattle.sst_merge.specs.declared.movable_blocks.Open.{Open}

-- the lists of data blocks
abbrev pub block_lists : List DataRefParts → List (List Entry)
block_lists blocks = map (λ (d : DataRefParts). d.items) blocks

-- blocks of an ordered list, none of which is empty
pub record AreEntryBlocks (blocks : List (List Entry)) : Type 0 where
  pub ordered : IsOrdered entries (joined blocks)
  pub some : AllByRecursion IsNotEmpty blocks

-- the user key of an entry
abbrev pub entry_key : Entry → List ℕ
entry_key e = e.key.user_key

-- does a search for a user key pass an entry, if there is one?
abbrev pub is_last_sought : List ℕ → Bool → Option Entry → Bool
is_last_sought needle at_most None = false
is_last_sought needle at_most (Some e) = is_sought entry_key needle at_most e

-- does it pass a whole block: the last entry of it?
abbrev pub is_block_sought : List ℕ → Bool → List Entry → Bool
is_block_sought needle at_most block = is_last_sought needle at_most (item_before block (length block))

-- how many entries are before a block
abbrev pub entries_before : List (List Entry) → ℕ → ℕ
entries_before blocks n = length (joined (take n blocks))

-- the front holds the entry at its index, and has those after it left
pub record IsFrontIn (blocks : List (List Entry)) (e : Open) : Type 0 where
  pub items : List Entry
  pub block_is : slice_get blocks e.block ≡ Some items
  pub held_is : slice_get items e.at ≡ Some e.held
  pub views_is : e.views ≡ drop (suc e.at) items
  pub few : length items < 2 ^ 64

abbrev pub HoldsFront : List (List Entry) → Option Open → Type 0
HoldsFront blocks None = Unit {0}
HoldsFront blocks (Some e) = IsFrontIn blocks e

-- the back holds the entry at its index, and has those before it left
pub record IsBackIn (blocks : List (List Entry)) (e : Open) : Type 0 where
  pub items : List Entry
  pub block_is : slice_get blocks e.block ≡ Some items
  pub held_is : slice_get items e.at ≡ Some e.held
  pub views_is : e.views ≡ take e.at items

abbrev pub HoldsBack : List (List Entry) → Option Open → Type 0
HoldsBack blocks None = Unit {0}
HoldsBack blocks (Some e) = IsBackIn blocks e

-- the place of the front: that of its entry, or the end; and of the back: that after its entry, or the start
abbrev pub front_place : List (List Entry) → Option Open → ℕ
front_place blocks None = length (joined blocks)
front_place blocks (Some e) = entries_before blocks e.block + e.at

abbrev pub back_place : List (List Entry) → Option Open → ℕ
back_place blocks None = 0
back_place blocks (Some e) = suc (entries_before blocks e.block + e.at)

-- the window of two ends
abbrev pub window_of : List (List Entry) → Option Open → Option Open → Window Entry
window_of blocks front back = record { list = joined blocks; lo = front_place blocks front; hi = back_place blocks back }

-- the ends of blocks
pub record AreEnds (blocks : List (List Entry)) (front back : Option Open) : Type 0 where
  pub are_blocks : AreEntryBlocks blocks
  pub front_holds : HoldsFront blocks front
  pub back_holds : HoldsBack blocks back

-- the first of these entries of a block is held, if there is one
abbrev pub TakesFirstOf : ℕ → List Entry → List Entry → Option Open → Type 0
TakesFirstOf index items views None = views ≡ []
TakesFirstOf index items views (Some e) = (e.block ≡ index) × (views ≡ e.held ∷ e.views) × (e.at + length views ≡ length items) × (length items < 2 ^ 64)

-- or the last of them, which are the first ones of the block
abbrev pub TakesLastOf : ℕ → List Entry → Option Open → Type 0
TakesLastOf index views None = views ≡ []
TakesLastOf index views (Some e) = (e.block ≡ index) × (views ≡ e.views ++ e.held ∷ []) × (e.at ≡ length e.views)
