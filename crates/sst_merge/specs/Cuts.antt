-- Cuts of ordered lists: of each list as many items as sort before a place of the merge of all.
use Rattle.std.specs.Prelude.{◌≡◌, ℕ, zero, suc, ◌+◌, ◌<◌, ◌≤◌, nat_lt, Bool, true, false, not, List, [], ◌∷◌, Some, slice_get, take, drop}
use Rattle.std.specs.Ordering.{is_lt}
use Rattle.std.specs.declared.cmp.Ordering.{Ordering}
use Rattle.sst_sources.specs.Picks.{list_at}

-- this is the item at an index of one of some lists
abbrev pub IsItem : {X : Type 0} → List (List X) → ℕ → ℕ → X → Type 0
IsItem xss i a x = slice_get (list_at xss i) a ≡ Some x

-- does an item come before one of another list: of equal ones, too, unless its list is the later one
abbrev pub comes_first : {X : Type 0} → (X → X → Ordering) → Bool → X → X → Bool
comes_first cmp false x y = not (is_lt (cmp y x))
comes_first cmp true x y = is_lt (cmp x y)

-- the first items of each list, so many of list i, come before all others in the merge
abbrev pub IsCut : {X : Type 0} → (X → X → Ordering) → List (List X) → (ℕ → ℕ) → Type 0
IsCut {X = X} cmp xss cut = (i j a b : ℕ) (x y : X) → (i ≡ j → ⊥) → IsItem xss i a x → IsItem xss j b y → a < cut i → cut j ≤ b → comes_first cmp (nat_lt j i) x y ≡ true

-- a count more of the list at an index
pub record IsNext (place : ℕ) (cut next : ℕ → ℕ) : Type 0 where
  pub here : next place ≡ suc (cut place)
  pub others : (i : ℕ) → (i ≡ place → ⊥) → next i ≡ cut i

-- how many items a cut takes of all
abbrev pub total : {X : Type 0} → List (List X) → (ℕ → ℕ) → ℕ
total [] cut = 0
total (xs ∷ xss) cut = cut zero + total xss (λ i. cut (suc i))

-- the items that a cut takes of each list, and those that it leaves
abbrev pub fronts : {X : Type 0} → List (List X) → (ℕ → ℕ) → List (List X)
fronts [] cut = []
fronts (xs ∷ xss) cut = take (cut zero) xs ∷ fronts xss (λ i. cut (suc i))

abbrev pub rests : {X : Type 0} → List (List X) → (ℕ → ℕ) → List (List X)
rests [] cut = []
rests (xs ∷ xss) cut = drop (cut zero) xs ∷ rests xss (λ i. cut (suc i))

-- the list at this index gives its item first, at the counts of a cut: no list gives one that comes before it
pub record IsFirstList {X : Type 0} (cmp : X → X → Ordering) (xss : List (List X)) (cut : ℕ → ℕ) (place : ℕ) : Type 0 where
  pub before : (j : ℕ) (y : X) → IsItem xss j (cut j) y → (x : X) × (IsItem xss place (cut place) x) × ((place ≡ j → ⊥) → comes_first cmp (nat_lt j place) x y ≡ true)

-- the list at this index gives its item last: none gives one that comes after it
pub record IsLastList {X : Type 0} (cmp : X → X → Ordering) (xss : List (List X)) (cut : ℕ → ℕ) (place : ℕ) : Type 0 where
  pub after : (j b : ℕ) (y : X) → cut j ≡ suc b → IsItem xss j b y → (a : ℕ) × (x : X) × (cut place ≡ suc a) × (IsItem xss place a x) × ((place ≡ j → ⊥) → comes_first cmp (nat_lt place j) y x ≡ true)
