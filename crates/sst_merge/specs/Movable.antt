-- Sources that are moved: what clauses know of one, and of their merge.
use Rattle.std.specs.Prelude.{◌≡◌, ℕ, zero, suc, ◌+◌, ◌-◌, ◌<◌, ◌≤◌, nat_lt, Bool, true, false, not, List, [], ◌∷◌, Option, Some, None, length, map, slice_get, count_by}
use Rattle.std.specs.Cmp.Lexicographic.{slice_cmp}
use Rattle.std.specs.List.{sum_by}
use Rattle.std.specs.Ordering.{nat_cmp, is_lt, is_le}
use Rattle.std.specs.declared.cmp.Ordering.{Ordering}
use Rattle.sstable_blocks.specs.Prelude.{Entry, IsInOrder, entries, IsOrdered, Window, whole}
use Rattle.sst_merge.specs.Cuts.{IsCut, IsItem, comes_first, IsFirstList, IsLastList}
use Rattle.sst_sources.specs.Merge.{merged}
use Rattle.sst_sources.specs.Picks.{list_at}

-- does an item's user key sort before this one, and does it not sort after it?
abbrev pub is_below : {X : Type 0} → (X → List ℕ) → List ℕ → X → Bool
is_below key needle x = is_lt (slice_cmp nat_cmp (key x) needle)

abbrev pub is_at_most : {X : Type 0} → (X → List ℕ) → List ℕ → X → Bool
is_at_most key needle x = is_le (slice_cmp nat_cmp (key x) needle)

-- the item before an index, if there is one
abbrev pub item_before : {X : Type 0} → List X → ℕ → Option X
item_before xs zero = None
item_before xs (suc n) = slice_get xs n

-- the whole of an ordered list
pub record IsFresh {X : Type 0} (cmp : X → X → Ordering) (w : Window X) : Type 0 where
  pub ordered : IsInOrder cmp w.list
  pub all : w ≡ whole w.list

-- the lists of windows, and a count of the window at an index
abbrev pub lists_in : {X : Type 0} → List (Window X) → List (List X)
lists_in {X = X} ws = map (λ (w : Window X). w.list) ws

abbrev pub count_at : {X : Type 0} → (Window X → ℕ) → List (Window X) → ℕ → ℕ
count_at count [] i = 0
count_at count (w ∷ ws) zero = count w
count_at count (w ∷ ws) (suc i) = count_at count ws i

-- the window of a merge: before its front and before its back are as many items as before those of all windows
unfoldable pub merged_window : {X : Type 0} → (X → X → Ordering) → List (Window X) → Window X
merged_window {X = X} cmp ws = record {
  list = merged cmp (lists_in ws);
  lo = sum_by (λ (w : Window X). w.lo) ws;
  hi = sum_by (λ (w : Window X). w.hi) ws;
}

-- windows of ordered lists, whose fronts stand at one place of the merge, and so do their backs
pub record AreMoved {X : Type 0} (cmp : X → X → Ordering) (ws : List (Window X)) : Type 0 where
  pub ordered : (i : ℕ) → IsInOrder cmp (list_at (lists_in ws) i)
  pub lo_inside : (i : ℕ) → count_at (λ (w : Window X). w.lo) ws i ≤ length (list_at (lists_in ws) i)
  pub hi_inside : (i : ℕ) → count_at (λ (w : Window X). w.hi) ws i ≤ length (list_at (lists_in ws) i)
  pub front : IsCut cmp (lists_in ws) (count_at (λ (w : Window X). w.lo) ws)
  pub back : IsCut cmp (lists_in ws) (count_at (λ (w : Window X). w.hi) ws)

-- does the first item go before the second, where either may be wanting? an equal one does not
abbrev pub goes_before : {X : Type 0} → (X → X → Ordering) → Option X → Option X → Bool
goes_before cmp None b = false
goes_before cmp (Some x) None = true
goes_before cmp (Some x) (Some y) = is_lt (cmp x y)

-- does it go after the second? an equal one does
abbrev pub goes_after : {X : Type 0} → (X → X → Ordering) → Option X → Option X → Bool
goes_after cmp None b = false
goes_after cmp (Some x) None = true
goes_after cmp (Some x) (Some y) = not (is_lt (cmp x y))

-- the place of the window whose first item is the first of all, and of that whose last one is the last
pub record IsFrontPick {X : Type 0} (cmp : X → X → Ordering) (ws : List (Window X)) (place : ℕ) : Type 0 where
  pub inside : place < length ws
  pub first : IsFirstList cmp (lists_in ws) (count_at (λ (w : Window X). w.lo) ws) place

pub record IsBackPick {X : Type 0} (cmp : X → X → Ordering) (ws : List (Window X)) (place : ℕ) : Type 0 where
  pub inside : place < length ws
  pub last : IsLastList cmp (lists_in ws) (count_at (λ (w : Window X). w.hi) ws) place

-- the same of the first n windows alone
abbrev pub FirstAmong : {X : Type 0} → (X → X → Ordering) → List (List X) → (ℕ → ℕ) → ℕ → ℕ → Type 0
FirstAmong {X = X} cmp xss cut n place = (j : ℕ) (y : X) → j < n → IsItem xss j (cut j) y → (x : X) × (IsItem xss place (cut place) x) × ((place ≡ j → ⊥) → comes_first cmp (nat_lt j place) x y ≡ true)

abbrev pub LastAmong : {X : Type 0} → (X → X → Ordering) → List (List X) → (ℕ → ℕ) → ℕ → ℕ → Type 0
LastAmong {X = X} cmp xss cut n place = (j : ℕ) (y : X) → j < n → item_before (list_at xss j) (cut j) ≡ Some y → (x : X) × (item_before (list_at xss place) (cut place) ≡ Some x) × ((place ≡ j → ⊥) → comes_first cmp (nat_lt place j) y x ≡ true)

pub record IsFrontAmong {X : Type 0} (cmp : X → X → Ordering) (ws : List (Window X)) (n place : ℕ) : Type 0 where
  pub inside : place < n
  pub first : FirstAmong cmp (lists_in ws) (count_at (λ (w : Window X). w.lo) ws) n place

pub record IsBackAmong {X : Type 0} (cmp : X → X → Ordering) (ws : List (Window X)) (n place : ℕ) : Type 0 where
  pub inside : place < n
  pub last : LastAmong cmp (lists_in ws) (count_at (λ (w : Window X). w.hi) ws) n place

-- a step of one source from its front gives the item there, if there is one, whatever its back is
abbrev pub TakesFront : {X : Type 0} → Window X → Option X → Window X → Type 0
TakesFront old None new = (slice_get old.list old.lo ≡ None) × (new ≡ old)
TakesFront old (Some x) new = (slice_get old.list old.lo ≡ Some x) × (new ≡ record old { lo = old.lo + 1 })

-- one from its back gives the item before it, whatever its front is
abbrev pub TakesBack : {X : Type 0} → Window X → Option X → Window X → Type 0
TakesBack old None new = (item_before old.list old.hi ≡ None) × (new ≡ old)
TakesBack old (Some x) new = (item_before old.list old.hi ≡ Some x) × (new ≡ record old { hi = old.hi - 1 })

-- the front after the first items that pass a test, or the back after them: as many as do in the list
abbrev pub seek_to : {X : Type 0} → (X → Bool) → Window X → Window X
seek_to test w = record w { lo = count_by test w.list }

abbrev pub seek_up_to : {X : Type 0} → (X → Bool) → Window X → Window X
seek_up_to test w = record w { hi = count_by test w.list }

-- values of which the first n were changed
abbrev pub changed_until : {A : Type 0} → (A → A) → ℕ → List A → List A
changed_until f zero xs = xs
changed_until f (suc n) [] = []
changed_until f (suc n) (x ∷ xs) = f x ∷ changed_until f n xs

-- does a search for a user key pass an item: one below it, or also one of the key itself?
abbrev pub is_sought : {X : Type 0} → (X → List ℕ) → List ℕ → Bool → X → Bool
is_sought key needle false = is_below key needle
is_sought key needle true = is_at_most key needle

-- the ends of an ordered list of entries, and the entries that are held there
pub record HoldsEnds (list : List Entry) (lo hi : ℕ) (first last : Option Entry) : Type 0 where
  pub ordered : IsOrdered entries list
  pub lo_inside : lo ≤ length list
  pub hi_inside : hi ≤ length list
  pub first_is : first ≡ slice_get list lo
  pub last_is : last ≡ item_before list hi
