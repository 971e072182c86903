-- Merges of lists.
use Rattle.std.specs.Prelude.{if◌then◌else◌, List, [], ◌∷◌, Option, Some, None}
use Rattle.std.specs.Ordering.{is_lt}
use Rattle.std.specs.declared.cmp.Ordering.{Ordering}
use Rattle.sstable_blocks.specs.Prelude.{Entry, item_cmp, entries}

-- the order of entries: by user key rising, then by sequence number falling
abbrev pub entry_cmp : Entry → Entry → Ordering
entry_cmp = item_cmp entries

-- the merge of x and the items after it with a list, where `after` merges those after it
abbrev pub merge_after : {X : Type 0} → (X → X → Ordering) → X → List X → (List X → List X) → List X → List X
merge_after cmp x xs after [] = x ∷ xs
merge_after cmp x xs after (y ∷ ys) = if is_lt (cmp y x) then y ∷ merge_after cmp x xs after ys else x ∷ after (y ∷ ys)

-- the merge of two lists: of their two first items the lesser, and of equal ones that of the first list
abbrev pub merge : {X : Type 0} → (X → X → Ordering) → List X → List X → List X
merge cmp [] = λ ys. ys
merge cmp (x ∷ xs) = merge_after cmp x xs (merge cmp xs)

-- the merge of lists: of equal items those of the earlier list come first
abbrev pub merged : {X : Type 0} → (X → X → Ordering) → List (List X) → List X
merged cmp [] = []
merged cmp (xs ∷ xss) = merge cmp xs (merged cmp xss)

-- of two first matches, either of which may be wanting, the lesser, and of equal ones the first
abbrev pub lesser : {X : Type 0} → (X → X → Ordering) → Option X → Option X → Option X
lesser cmp None b = b
lesser cmp (Some a) None = Some a
lesser cmp (Some a) (Some b) = if is_lt (cmp b a) then Some b else Some a

-- the least of first matches, and of equal ones the earliest
abbrev pub least_match : {X : Type 0} → (X → X → Ordering) → List (Option X) → Option X
least_match cmp [] = None
least_match cmp (a ∷ others) = lesser cmp a (least_match cmp others)
