-- Merges of any number of lists, by the least of their heads.
use Rattle.std.proofs.Common.{◌≡◌, ℕ, zero, suc, ◌+◌, ◌<◌, Bool, true, false, not, cond, List, [], ◌∷◌, length, drop, get_or, Some, refl, sym, ap, ◌∙◌, inl, inr, arith}
use Rattle.std.proofs.lemmas.Bool.{cases_Bool}
use Rattle.std.proofs.Math.ListN.{set}
use Rattle.std.proofs.lemmas.List.{drop_more}
use Rattle.std.specs.Ordering.{is_lt}
use Rattle.std.specs.declared.cmp.Ordering.{Ordering}
use Rattle.sst_sources.specs.Merge.{merge, merged}
use Rattle.sst_sources.specs.MergeLaws.{merge-nil, merge-first, merge-second}
use Rattle.sst_sources.specs.Sources.{Left, lists_left}

-- the list at a place, or none
abbrev pub list_at : {X : Type 0} → List (List X) → ℕ → List X
list_at [] n = []
list_at (xs ∷ xss) zero = xs
list_at (xs ∷ xss) (suc n) = list_at xss n

-- does the first list give its item before the second?
abbrev pub wins : {X : Type 0} → (X → X → Ordering) → List X → List X → Bool
wins cmp xs [] = true
wins cmp [] (y ∷ ys) = false
wins cmp (x ∷ xs) (y ∷ ys) = not (is_lt (cmp y x))

-- the place of the list that gives the first item of the merge: of equal items the earlier list's goes first
abbrev pub least : {X : Type 0} → (X → X → Ordering) → List (List X) → ℕ
least cmp [] = 0
least cmp (xs ∷ xss) = cond (wins cmp xs (list_at xss (least cmp xss))) 0 (suc (least cmp xss))

-- the place of a source: the one whose list gives the first item of the merge, where the lists of all are known
pub record IsPick {X : Type 0} (cmp : X → X → Ordering) (lefts : List (Left X)) (place : ℕ) : Type 0 where
  pub inside : place < length lefts
  pub is : (xss : List (List X)) → lists_left lefts ≡ Some xss → place ≡ least cmp xss

-- does the first list give its item before the second: of equal items too, unless its source is the later one
abbrev pub goes : {X : Type 0} → (X → X → Ordering) → Bool → List X → List X → Bool
goes cmp false xs ys = wins cmp xs ys
goes cmp true xs ys = not (wins cmp ys xs)

module _ {X : Type 0} (cmp : X → X → Ordering) where
  first_wins : (xs : List X) (xss : List (List X)) → wins cmp xs (list_at xss (least cmp xss)) ≡ true → least cmp (xs ∷ xss) ≡ 0
  first_wins xs xss h = ap (λ b. cond b 0 (suc (least cmp xss))) h

  first_loses : (xs : List X) (xss : List (List X)) → wins cmp xs (list_at xss (least cmp xss)) ≡ false → least cmp (xs ∷ xss) ≡ suc (least cmp xss)
  first_loses xs xss h = ap (λ b. cond b 0 (suc (least cmp xss))) h

  -- where the list at the least place is empty, so is the merge
  none_by : (ys : List X) (yss : List (List X)) (l : List X) → (list_at yss (least cmp yss) ≡ [] → merged cmp yss ≡ []) → list_at yss (least cmp yss) ≡ l → list_at (ys ∷ yss) (least cmp (ys ∷ yss)) ≡ [] → merged cmp (ys ∷ yss) ≡ []
  none_by [] yss [] ih e h = ih e
  none_by (y ∷ ys) yss [] ih e h =
      let w : wins cmp (y ∷ ys) (list_at yss (least cmp yss)) ≡ true = ap (wins cmp (y ∷ ys)) e in
      absurd (let f : y ∷ ys ≡ [] = ap (list_at ((y ∷ ys) ∷ yss)) (sym (first_wins (y ∷ ys) yss w)) ∙ h in cc)
  none_by [] yss (x ∷ xs) ih e h =
      let w : wins cmp [] (list_at yss (least cmp yss)) ≡ false = ap (wins cmp []) e in
      absurd (let f : x ∷ xs ≡ [] = sym e ∙ ap (list_at ([] ∷ yss)) (sym (first_loses [] yss w)) ∙ h in cc)
  none_by (y ∷ ys) yss (x ∷ xs) ih e h = elim (cases_Bool (is_lt (cmp x y))) [
    | inl less ↦ (
        let w : wins cmp (y ∷ ys) (list_at yss (least cmp yss)) ≡ false = ap (wins cmp (y ∷ ys)) e ∙ ap not less in
        absurd (let f : x ∷ xs ≡ [] = sym e ∙ ap (list_at ((y ∷ ys) ∷ yss)) (sym (first_loses (y ∷ ys) yss w)) ∙ h in cc))
    | inr more ↦ (
        let w : wins cmp (y ∷ ys) (list_at yss (least cmp yss)) ≡ true = ap (wins cmp (y ∷ ys)) e ∙ ap not more in
        absurd (let f : y ∷ ys ≡ [] = ap (list_at ((y ∷ ys) ∷ yss)) (sym (first_wins (y ∷ ys) yss w)) ∙ h in cc))
  ]

  pub least_none : (xss : List (List X)) → list_at xss (least cmp xss) ≡ [] → merged cmp xss ≡ []
  least_none [] h = refl
  least_none (ys ∷ yss) h = none_by ys yss (list_at yss (least cmp yss)) (least_none yss) refl h

  -- where it has a first item, that is the merge's first item
  some_by : (ys : List X) (yss : List (List X)) (x : X) (xs : List X) (l : List X) → ((z : X) (zs : List X) → list_at yss (least cmp yss) ≡ z ∷ zs → merged cmp yss ≡ z ∷ merged cmp (set yss (least cmp yss) zs)) → list_at yss (least cmp yss) ≡ l → list_at (ys ∷ yss) (least cmp (ys ∷ yss)) ≡ x ∷ xs → merged cmp (ys ∷ yss) ≡ x ∷ merged cmp (set (ys ∷ yss) (least cmp (ys ∷ yss)) xs)
  some_by [] yss x xs [] ih e h =
      let w : wins cmp [] (list_at yss (least cmp yss)) ≡ true = ap (wins cmp []) e in
      absurd (let f : [] ≡ x ∷ xs = ap (list_at ([] ∷ yss)) (sym (first_wins [] yss w)) ∙ h in cc)
  some_by (y ∷ ys) yss x xs [] ih e h =
      let w : wins cmp (y ∷ ys) (list_at yss (least cmp yss)) ≡ true = ap (wins cmp (y ∷ ys)) e in
      let f : y ∷ ys ≡ x ∷ xs = ap (list_at ((y ∷ ys) ∷ yss)) (sym (first_wins (y ∷ ys) yss w)) ∙ h in
      let head : y ≡ x = cc in
      let tail : ys ≡ xs = cc in
      let rest = least_none yss e in
      ap (merge cmp (y ∷ ys)) rest ∙ ap (λ z. z ∷ ys) head ∙ ap (λ zs. x ∷ zs) (tail ∙ sym (merge-nil cmp xs) ∙ ap (merge cmp xs) (sym rest))
      ∙ ap (λ n. x ∷ merged cmp (set ((y ∷ ys) ∷ yss) n xs)) (sym (first_wins (y ∷ ys) yss w))
  some_by [] yss x xs (z ∷ zs) ih e h =
      let w : wins cmp [] (list_at yss (least cmp yss)) ≡ false = ap (wins cmp []) e in
      let f : list_at yss (least cmp yss) ≡ x ∷ xs = ap (list_at ([] ∷ yss)) (sym (first_loses [] yss w)) ∙ h in
      ih x xs f ∙ ap (λ n. x ∷ merged cmp (set ([] ∷ yss) n xs)) (sym (first_loses [] yss w))
  some_by (y ∷ ys) yss x xs (z ∷ zs) ih e h = elim (cases_Bool (is_lt (cmp z y))) [
    | inl less ↦ (
        let w : wins cmp (y ∷ ys) (list_at yss (least cmp yss)) ≡ false = ap (wins cmp (y ∷ ys)) e ∙ ap not less in
        let f : list_at yss (least cmp yss) ≡ x ∷ xs = ap (list_at ((y ∷ ys) ∷ yss)) (sym (first_loses (y ∷ ys) yss w)) ∙ h in
        let g : z ∷ zs ≡ x ∷ xs = sym e ∙ f in
        let same : z ≡ x = cc in
        ap (merge cmp (y ∷ ys)) (ih x xs f)
        ∙ merge-second cmp y x ys (merged cmp (set yss (least cmp yss) xs)) (ap (λ u. is_lt (cmp u y)) (sym same) ∙ less)
        ∙ ap (λ n. x ∷ merged cmp (set ((y ∷ ys) ∷ yss) n xs)) (sym (first_loses (y ∷ ys) yss w)))
    | inr more ↦ (
        let w : wins cmp (y ∷ ys) (list_at yss (least cmp yss)) ≡ true = ap (wins cmp (y ∷ ys)) e ∙ ap not more in
        let f : y ∷ ys ≡ x ∷ xs = ap (list_at ((y ∷ ys) ∷ yss)) (sym (first_wins (y ∷ ys) yss w)) ∙ h in
        let head : y ≡ x = cc in
        let tail : ys ≡ xs = cc in
        let rest = ih z zs e in
        ap (merge cmp (y ∷ ys)) rest ∙ merge-first cmp y z ys (merged cmp (set yss (least cmp yss) zs)) more ∙ ap (λ u. u ∷ merge cmp ys (z ∷ merged cmp (set yss (least cmp yss) zs))) head
        ∙ ap (λ us. x ∷ merge cmp ys us) (sym rest) ∙ ap (λ us. x ∷ merge cmp us (merged cmp yss)) tail
        ∙ ap (λ n. x ∷ merged cmp (set ((y ∷ ys) ∷ yss) n xs)) (sym (first_wins (y ∷ ys) yss w)))
  ]

module _ {X : Type 0} (cmp : X → X → Ordering) where
  pub least_some : (xss : List (List X)) (x : X) (xs : List X) → list_at xss (least cmp xss) ≡ x ∷ xs → merged cmp xss ≡ x ∷ merged cmp (set xss (least cmp xss) xs)
  least_some [] x xs h = absurd (cc)
  least_some (ys ∷ yss) x xs h = some_by cmp ys yss x xs (list_at yss (least cmp yss)) (least_some yss) refl h

list_at_or : {X : Type 0} (xss : List (List X)) (n : ℕ) (d : List X) → n < length xss → get_or xss n d ≡ list_at xss n
list_at_or [] n d h = absurd (omega arith)
list_at_or (ys ∷ yss) zero d h = refl
list_at_or (ys ∷ yss) (suc n) d h = list_at_or yss n d (omega arith)

-- the lists from an index on, with that at the index before them
pub from_here : {X : Type 0} (xss : List (List X)) (j i : ℕ) → j < length xss → j + 1 ≡ i → drop j xss ≡ list_at xss j ∷ drop i xss
from_here xss j i inside next = drop_more xss j [] inside ∙ ap (λ ys. ys ∷ drop (j + 1) xss) (list_at_or xss j [] inside) ∙ ap (λ n. list_at xss j ∷ drop n xss) next

module _ {X : Type 0} (cmp : X → X → Ordering) where
  -- an empty list never gives its item first
  pub wins_nil : (xs : List X) → wins cmp xs [] ≡ true
  wins_nil [] = refl
  wins_nil (x ∷ xs) = refl
