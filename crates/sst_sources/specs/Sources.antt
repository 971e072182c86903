-- What clauses know of sources.
use Rattle.std.specs.Prelude.{◌≡◌, ◌⊎◌, ℕ, ◌+◌, ◌<◌, ◌≤◌, List, [], ◌∷◌, ◌++◌, map, Option, Some, None, IfSome, Bool, true, false}
use Rattle.std.specs.Option.{option_map}
use Rattle.std.specs.List.{sum_by}
use Rattle.sstable_blocks.specs.Results.{Error, Memory}
use Rattle.sstable_blocks.specs.Prelude.{found_item}
use Rattle.sstable_blocks.specs.Blocks.{joined}

-- What is left of a source: the list of its items, where the bytes are known that they are read from, and else nothing
-- is said of it; at most how many they are; the errors that reading them may give, where these bytes are known; and the
-- error that ended the source, if one did.
pub record Left (X : Type 0) : Type 0 where
  pub list : Option (List X)
  pub most : ℕ
  pub errors : Option (List Error)
  pub ended : Option Error

-- a step takes the first item of what is left, or there is none
abbrev pub TakesFirst : {X : Type 0} → Left X → Option X → Left X → Type 0
TakesFirst s None t = (t.list ≡ s.list) × IfSome s.list (λ xs. xs ≡ []) × (t.most ≤ s.most)
TakesFirst s (Some x) t = (s.list ≡ option_map (λ xs. x ∷ xs) t.list) × (t.most < s.most)

-- a step passes the first item of what is left, if there is one, and tells whether there was
abbrev pub PassesFirst : {X : Type 0} → Left X → Bool → Left X → Type 0
PassesFirst {X = X} s true t = (x : X) × TakesFirst s (Some x) t
PassesFirst s false t = TakesFirst s None t

-- these items were taken, and what is left after them is known where they are
abbrev pub IsTaken : {X : Type 0} → Option (List X) → List X → Option (List X) → Type 0
IsTaken s items t = s ≡ option_map (λ rest. items ++ rest) t

-- an item, if there is one, before others
abbrev pub before : {X : Type 0} → Option X → List X → List X
before None xs = xs
before (Some x) xs = x ∷ xs

-- the errors that a step may give: the one that ended the source, and those of reading what is left
abbrev pub step_errors : {X : Type 0} → Left X → Option (List Error)
step_errors s = option_map (before s.ended) s.errors

-- an error is one of these
abbrev pub IsAmong : Error → List Error → Type 0
IsAmong e [] = ⊥
IsAmong e (x ∷ xs) = (x ≡ e) ⊎ IsAmong e xs

-- a step may give an error, where its errors are known: it is one of these
abbrev pub MayMeet : {X : Type 0} → Left X → Error → Type 0
MayMeet s e = IfSome (step_errors s) (IsAmong e)

-- why a step fails: an allocation did, or what every step of such a source may fail by, or what is left is read with
-- this error
abbrev pub MayGive : {X : Type 0} → (Error → Type 0) → Left X → Error → Type 0
MayGive may_fail s e = (e ≡ Memory) ⊎ (may_fail e ⊎ MayMeet s e)

-- later steps may give no other errors
abbrev pub MeetsNoMore : {X : Type 0} → Left X → Left X → Type 0
MeetsNoMore old new = (e : Error) → MayMeet new e → MayMeet old e

-- what is left, in a list of other items, where this error ended it, if one did
abbrev pub left_as : {X Y : Type 0} → (List X → List Y) → Option Error → Left X → Left Y
left_as f ended s = record { list = option_map f s.list; most = s.most; errors = step_errors s; ended = ended }

-- what is left where an item is held before it, and this error ended it, if one did
abbrev pub left_held : {X : Type 0} → Option X → Option Error → Left X → Left X
left_held held ended s = record { list = option_map (before held) s.list; most = found_item held + s.most; errors = step_errors s; ended = ended }

-- a list with an item before it that may be held
abbrev pub list_held : {X : Type 0} → Option X → Option (List X) → Option (List X)
list_held None s = s
list_held (Some x) s = option_map (λ xs. x ∷ xs) s

abbrev pub most_held : {X : Type 0} → Option X → ℕ → ℕ
most_held None most = most
most_held (Some x) most = most + 1

-- what is left where an item may have been taken ahead
abbrev pub with_held : {X : Type 0} → Option X → Left X → Left X
with_held held s = record { list = list_held held s.list; most = most_held held s.most; errors = s.errors; ended = s.ended }

-- where none is held, none is left
abbrev pub IsHeld : {X : Type 0} → Option X → Option (List X) → Type 0
IsHeld None s = IfSome s (λ xs. xs ≡ [])
IsHeld (Some x) s = Unit {0}

-- lists, where all of them are known
abbrev pub all_known : {A : Type 0} → List (Option A) → Option (List A)
all_known [] = Some []
all_known (None ∷ all) = None
all_known (Some a ∷ all) = option_map (λ rest. a ∷ rest) (all_known all)

abbrev pub lists_left : {X : Type 0} → List (Left X) → Option (List (List X))
lists_left {X = X} lefts = all_known (map (λ (s : Left X). s.list) lefts)

-- the errors of all, where those of each are known
abbrev pub errors_of : List (Option (List Error)) → Option (List Error)
errors_of each = option_map joined (all_known each)

-- what is left of sources together, put into one list, where this error ended it, if one did
abbrev pub all_left : {X : Type 0} → (List (List X) → List X) → Option Error → List (Left X) → Left X
all_left {X = X} together ended lefts = record {
  list = option_map together (lists_left lefts);
  most = sum_by (λ (s : Left X). s.most) lefts;
  errors = errors_of (map (λ (s : Left X). step_errors s) lefts);
  ended = ended;
}
