-- What contracts see of the back of an iterator: an end, and the offsets of the forms before it.
use Rattle.std.specs.Prelude.{◌≡◌, ℕ, ◌+◌, ◌-◌, ◌*◌, ◌/◌, ◌%◌, ◌<◌, ◌≤◌, ◌==◌, ◌||◌, if◌then◌else◌, Bool, true, List, length, slice_index, min, Option, IfSome}
use Rattle.std.specs.Option.{option_map}
use Rattle.sst_base.specs.Counted.{CountsBetween, found_item}
use Rattle.sst_block_core.specs.Kind.{Kind}
use Rattle.sst_block_core.specs.Pointers.{head_count}
use Rattle.sst_block_core.specs.Scan.{Listed, Scan, IsPlace}
use Rattle.sst_block_core.specs.Window.{Window, Answer, item, found, picked_head, next_back}

-- the index of the head of the interval in which the item before an end is
unfoldable pub first_of : ℕ → ℕ → ℕ
first_of r end = (end - 1) / r * r

-- offsets are those of the forms of an interval, from its head on; `first` is that head's index, and its key begins at `base`
abbrev pub ArePlaces : {X : Type 0} → Kind X → Listed X → List ℕ → ℕ → ℕ → Type 0
ArePlaces kind list stack base first = (k : ℕ) → k < length stack → IsPlace kind list (record { index = first + k; phase = k; offset = slice_index stack k; base = base })

-- offsets are those of the items from a head up to an end, or there are none, and then an interval ends there
pub record IsBack {X : Type 0} (kind : Kind X) (list : Listed X) (hi : ℕ) (stack : List ℕ) (base : ℕ) : Type 0 where
  pub inside : hi ≤ length list.items
  pub fits : length stack ≤ hi
  pub places : ArePlaces kind list stack base (hi - length stack)
  pub head : 0 < length stack → (hi - length stack) % list.interval ≡ 0
  pub ends : length stack ≡ 0 → 0 < hi % list.interval → hi ≡ length list.items

-- how many entries are decoded for the offsets before an end: those of its interval, where the interval ends there
unfoldable pub back_cost : ℕ → ℕ → ℕ → ℕ
back_cost r n hi = if ((hi % r) == 0 || hi == n) then hi - first_of r hi else 0

-- up to the end of the interval whose head is picked where a predicate holds of the first p heads
abbrev pub seek_upper_picked : {X : Type 0} → ℕ → Bool → ℕ → Window X → Window X × Answer X
seek_upper_picked r second p w = (record w { hi = min (length w.list) ((picked_head second p (head_count r (length w.list)) + 1) * r) }, found true)

-- a call that may decode heads and items is a step of the window
pub record GivesStep {X : Type 0} (s t : Scan X) (answer : Answer X) (step : Window X × Answer X) : Type 0 where
  pub payload : t.payload ≡ s.payload
  pub interval : t.interval ≡ s.interval
  pub step_is : ◌≡◌ {A = Window X × Answer X} (t.window, answer) step

-- A call of `next_back` is that step of the window, whose end lies within the list. It counts an entry for an item, and
-- the entries of the item's interval where that ends with it.
pub record GivesNextBack {X P : Type 0} (item_of : List ℕ → P → X) (is_found : List ℕ → P → Type 0) (s : Scan X) (r : Option P) (t : Scan X) : Type 0 where
  pub within : s.window.hi ≤ length s.window.list
  pub payload : t.payload ≡ s.payload
  pub interval : t.interval ≡ s.interval
  pub step : ◌≡◌ {A = Window X × Answer X} (t.window, item (option_map (item_of s.payload) r)) (next_back s.window)
  pub found : IfSome r (is_found s.payload)
  pub counts : CountsBetween s.steps t.steps (0, found_item r) (0, found_item r * (1 + back_cost s.interval (length s.window.list) s.window.hi))
