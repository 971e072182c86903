-- Merges of lists: of other items in the same order, and the first item by the list that it is of.
use Rattle.std.proofs.Common.{◌≡◌, ◌≢◌, ◌∙◌, ℕ, zero, suc, List, [], ◌∷◌, ◌++◌, map, set, refl, sym, ap, inl, inr}
use Rattle.std.specs.List.{AllZip}
use Rattle.std.proofs.lemmas.Bool.{cases_Bool}
use Rattle.std.specs.Ordering.{is_lt}
use Rattle.std.specs.declared.cmp.Ordering.{Ordering}
use Rattle.sst_sources.specs.Merge.{merge, merged}
use Rattle.sst_sources.specs.MergeLaws.{merge-first, merge-second}
use Rattle.sst_sources.specs.Picks.{least, least_none, least_some, list_at}

module _ {X Y : Type 0} (f : X → Y) (cmp : Y → Y → Ordering) where
  abbrev pub cmp_by : X → X → Ordering
  cmp_by x y = cmp (f x) (f y)

  merge-map : (xs ys : List X) → merge cmp (map f xs) (map f ys) ≡ map f (merge cmp_by xs ys)
  merge-map [] ys = refl
  merge-map (x ∷ xs) [] = refl
  merge-map (x ∷ xs) (y ∷ ys) = elim (cases_Bool (is_lt (cmp (f y) (f x)))) [
    | inl second ↦ merge-second cmp (f x) (f y) (map f xs) (map f ys) second ∙ ap (λ zs. f y ∷ zs) (merge-map (x ∷ xs) ys) ∙ ap (map f) (sym (merge-second cmp_by x y xs ys second))
    | inr first ↦ merge-first cmp (f x) (f y) (map f xs) (map f ys) first ∙ ap (λ zs. f x ∷ zs) (merge-map xs (y ∷ ys)) ∙ ap (map f) (sym (merge-first cmp_by x y xs ys first))
  ]

  -- a merge of lists of other items, in the same order
  pub merged-map : (xss : List (List X)) → merged cmp (map (map f) xss) ≡ map f (merged cmp_by xss)
  merged-map [] = refl
  merged-map (xs ∷ xss) = ap (merge cmp (map f xs)) (merged-map xss) ∙ merge-map xs (merged cmp_by xss)

  -- the list at a place
  pub list_at-map : (xss : List (List X)) (i : ℕ) → list_at (map (map f) xss) i ≡ map f (list_at xss i)
  list_at-map [] i = refl
  list_at-map (xs ∷ xss) zero = refl
  list_at-map (xs ∷ xss) (suc i) = list_at-map xss i

-- the list of the first item of a merge, by a number of the item
pub record IsFirstMerged {X : Type 0} (cmp : X → X → Ordering) (tag : X → ℕ) (xss : List (List X)) (x : X) (rest : List X) : Type 0 where
  pub tail : List X
  pub there : list_at xss (tag x) ≡ x ∷ tail
  pub rest_is : rest ≡ merged cmp (set xss (tag x) tail)

module _ {X : Type 0} (cmp : X → X → Ordering) (tag : X → ℕ) (xss : List (List X)) (tags : (i : ℕ) (y : X) (ys : List X) → list_at xss i ≡ y ∷ ys → tag y ≡ i) (x : X) (rest : List X) (is : merged cmp xss ≡ x ∷ rest) where
  first_by : (l : List X) → list_at xss (least cmp xss) ≡ l → IsFirstMerged cmp tag xss x rest
  first_by [] e = absurd (let none : [] ≡ x ∷ rest = sym (least_none cmp xss e) ∙ is in cc (none))
  first_by (y ∷ ys) e =
      let both : y ∷ merged cmp (set xss (least cmp xss) ys) ≡ x ∷ rest = sym (least_some cmp xss y ys e) ∙ is in
      let same : y ≡ x = cc (both) in
      let others : merged cmp (set xss (least cmp xss) ys) ≡ rest = cc (both) in
      let place : tag x ≡ least cmp xss = ap tag (sym same) ∙ tags (least cmp xss) y ys e in
      record {
        tail = ys;
        there = ap (list_at xss) place ∙ e ∙ ap (λ z. z ∷ ys) same;
        rest_is = sym others ∙ ap (λ n. merged cmp (set xss n ys)) (sym place);
      }

  -- the first item of a merge is that of the list at its number
  pub first_merged : IsFirstMerged cmp tag xss x rest
  first_merged = first_by (list_at xss (least cmp xss)) refl

module _ {X : Type 0} where
  -- lists of which one was exchanged that was not empty
  pub list_at-set : (xss : List (List X)) (i : ℕ) (x : X) (tail ys : List X) → list_at xss i ≡ x ∷ tail → list_at (set xss i ys) i ≡ ys
  list_at-set [] i x tail ys e = absurd (cc (e))
  list_at-set (xs ∷ xss) zero x tail ys e = refl
  list_at-set (xs ∷ xss) (suc i) x tail ys e = list_at-set xss i x tail ys e

  pub list_at-other : (xss : List (List X)) (i j : ℕ) (ys : List X) → i ≢ j → list_at (set xss i ys) j ≡ list_at xss j
  list_at-other [] i j ys other = refl
  list_at-other (xs ∷ xss) zero zero ys other = absurd (other refl)
  list_at-other (xs ∷ xss) zero (suc j) ys other = refl
  list_at-other (xs ∷ xss) (suc i) zero ys other = refl
  list_at-other (xs ∷ xss) (suc i) (suc j) ys other = list_at-other xss i j ys (λ e. other (ap suc e))

module _ {A B : Type 0} where
  -- pairs of lists, and of others after them
  pub zip-append : (R : A → B → Type 0) (xs : List A) (ys : List B) (us : List A) (vs : List B) → AllZip R xs ys → AllZip R us vs → AllZip R (xs ++ us) (ys ++ vs)
  zip-append R [] [] us vs first second = second
  zip-append R [] (y ∷ ys) us vs first second = absurd first
  zip-append R (x ∷ xs) [] us vs first second = absurd first
  zip-append R (x ∷ xs) (y ∷ ys) us vs first second = (first.0, zip-append R xs ys us vs first.1 second)
