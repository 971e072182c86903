-- Lists of versions of which some are newer and some older, as the levels of a store have them.
use Rattle.std.specs.Prelude.{◌≡◌, ◌≢◌, ℕ, ◌+◌, ◌≤◌, Bool, true, not, is_some, if◌then◌else◌, List, [], ◌∷◌}
use Rattle.std.specs.List.{AllByRecursion, list_any}
use Rattle.sstable_blocks.specs.Prelude.{Entry, entries, first_match}
use Rattle.sst_sources.specs.Ranges.{covers}

-- of a key that both lists have, no version of the first is older than one of the second
abbrev pub IsAbove : List Entry → List Entry → Type 0
IsAbove newer items = AllByRecursion (λ y. AllByRecursion (λ x. y.key.user_key ≡ x.key.user_key → x.key.seqno ≤ y.key.seqno) items) newer

-- lists as the levels of a store: no list has a version of a key that is newer than one of a list before it
abbrev pub AreLevels : List (List Entry) → Type 0
AreLevels [] = Unit {0}
AreLevels (newer ∷ older) = AllByRecursion (IsAbove newer) older × AreLevels older

-- the number of lists up to the first that has a version of a key below a sequence number, with it; of all where none has
abbrev pub asked : List ℕ → ℕ → List (List Entry) → ℕ
asked needle seqno [] = 0
asked needle seqno (items ∷ older) = 1 + (if is_some (first_match entries needle seqno items) then 0 else asked needle seqno older)

-- a list has no version of a key
abbrev pub HasNone : List ℕ → List Entry → Type 0
HasNone needle items = AllByRecursion (λ x. x.key.user_key ≢ needle) items

-- is a key in none of these ranges, of a first and a last key each?
abbrev pub is_outside : List (List ℕ × List ℕ) → List ℕ → Bool
is_outside ranges key = not (list_any (λ range. covers range.0 range.1 key) ranges)

-- the keys of a list are in these ranges
abbrev pub AreWithin : List (List ℕ × List ℕ) → List Entry → Type 0
AreWithin ranges items = AllByRecursion (λ x. list_any (λ range. covers range.0 range.1 x.key.user_key) ranges ≡ true) items
