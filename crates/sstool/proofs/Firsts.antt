-- The first of what a scan has left.
use Rattle.std.proofs.Common.{rules, ◌≡◌, ◌∙◌, ℕ, List, [], ◌∷◌, refl, sym, ap, subst, Option, Some, None, Result, Ok, Err, map, slice_get}
use Rattle.std.specs.Prelude.{IfOk, IfSome}
use Rattle.sstable_blocks.specs.Prelude.{Entry, plain}
use Rattle.sstable_blocks.specs.Results.{Error}
use Rattle.sst_parts.specs.AnyScans.{ended_in, left_in, range_in}
use Rattle.sst_parts.specs.declared.any_scan.AnyScan.{AnyScan}
use Rattle.sstable_blocks.specs.Scans.{KeyRange, Read, GivesFirst, within}
use Rattle.sstable_blocks.specs.RunReading.{Hashes}

head-of : (x y : Entry) (xs ys : List Read) → Ok x ∷ xs ≡ Ok y ∷ ys → x ≡ y
head-of x y xs ys e = search rules

pub first-of : (xs : List Entry) (new : List Read) (found : Option Entry) (failed reliable : Type 0) → GivesFirst failed reliable (map Ok xs) new (Ok found) → found ≡ slice_get xs 0
first-of [] new None failed reliable gives = refl
first-of [] new (Some x) failed reliable gives = search rules
first-of (y ∷ ys) new None failed reliable gives = search rules
first-of (y ∷ ys) new (Some x) failed reliable gives = ap (λ z. Some z) (sym (head-of y x (map Ok ys) new gives))

-- the first of what a fresh scan gives is the first of the entries that it reads, in this range
pub newest : {H S : Type 0} (bytes : Option (List ℕ)) (h : Hashes) (Has : List ℕ → List Entry → Type 0) (keys : KeyRange) (old new : AnyScan H S) (failed reliable : Type 0) (result : Result (Option Entry) Error)
    → IfSome bytes (λ all. (items : List Entry) → Has all items → left_in h all old ≡ map Ok (within (range_in old) (map plain items))) → range_in old ≡ keys → ended_in old ≡ None
    → IfSome bytes (λ all. ended_in old ≡ None → GivesFirst failed reliable (left_in h all old) (left_in h all new) result)
    → IfSome bytes (λ all. (items : List Entry) → Has all items → IfOk result (λ found. found ≡ slice_get (within keys (map plain items)) 0))
newest None h Has keys old new failed reliable result left same fresh first = tt
newest (Some all) h Has keys old new failed reliable (Err e) left same fresh first = λ items means. tt
newest (Some all) h Has keys old new failed reliable (Ok found) left same fresh first = λ items means.
    first-of (within keys (map plain items)) (left_in h all new) found failed reliable
    (subst (λ l. GivesFirst failed reliable l (left_in h all new) (Ok found)) (left items means ∙ ap (λ q. map Ok (within q (map plain items))) same) (first fresh))
