-- A merge from the back is the merge of the lists from the back, the last list first, in the opposite order.
use Rattle.std.proofs.Common.{◌≡◌, ◌≢◌, true, false, List, [], ◌∷◌, ◌++◌, map, reverse, refl, sym, ap, ◌∙◌, inl, inr}
use Rattle.std.proofs.lemmas.Bool.{cases_Bool}
use Rattle.std.specs.Cmp.{IsTotalOrder, back_total}
use Rattle.std.specs.List.{AllByRecursion}
use Rattle.std.specs.Ordering.{flip_args, is_lt}
use Rattle.std.specs.declared.cmp.Ordering.{Ordering}
use Rattle.std.specs.declared.cmp.Ordering.TheVariants.{Less}
use Rattle.sstable_blocks.specs.Prelude.{IsInOrder}
use Rattle.sstable_blocks.specs.BlockLaws.{lt_is, not_lt, is_not_lt, push_reverse, all_reverse}
use Rattle.sst_sources.specs.Merge.{merge, merged}
use Rattle.sst_sources.specs.MergeReads.{ge_trans}
use Rattle.sst_sources.specs.MergeLaws.{merge-nil, merge-first, merge-second, merge-ordered}
use Rattle.sstable_blocks.specs.EndLaws.{tail_in_order}

module _ {X : Type 0} (cmp : X → X → Ordering) where
  -- an item after all of the second list is the last of the merge
  last_first : (xs : List X) (x : X) (ys : List X) → AllByRecursion (λ y. is_lt (cmp y x) ≡ true) ys → merge cmp (xs ++ x ∷ []) ys ≡ merge cmp xs ys ++ x ∷ []
  last_first [] x [] h = refl
  last_first [] x (y ∷ ys) h = merge-second cmp x y [] ys h.0 ∙ ap (λ zs. y ∷ zs) (last_first [] x ys h.1)
  last_first (a ∷ xs) x [] h = refl
  last_first (a ∷ xs) x (y ∷ ys) h = elim (cases_Bool (is_lt (cmp y a))) [
    | inl second ↦ merge-second cmp a y (xs ++ x ∷ []) ys second ∙ ap (λ zs. y ∷ zs) (last_first (a ∷ xs) x ys h.1) ∙ ap (λ zs. zs ++ x ∷ []) (sym (merge-second cmp a y xs ys second))
    | inr first ↦ merge-first cmp a y (xs ++ x ∷ []) ys first ∙ ap (λ zs. a ∷ zs) (last_first xs x (y ∷ ys) h) ∙ ap (λ zs. zs ++ x ∷ []) (sym (merge-first cmp a y xs ys first))
  ]

  -- an item that sorts before none of the first list is the last of the merge
  last_second : (xs ys : List X) (y : X) → AllByRecursion (λ x. is_lt (cmp y x) ≡ false) xs → merge cmp xs (ys ++ y ∷ []) ≡ merge cmp xs ys ++ y ∷ []
  last_second [] ys y h = refl
  last_second (a ∷ xs) [] y h = merge-first cmp a y xs [] h.0 ∙ ap (λ zs. a ∷ zs) (last_second xs [] y h.1 ∙ ap (λ zs. zs ++ y ∷ []) (merge-nil cmp xs))
  last_second (a ∷ xs) (z ∷ ys) y h = elim (cases_Bool (is_lt (cmp z a))) [
    | inl second ↦ merge-second cmp a z xs (ys ++ y ∷ []) second ∙ ap (λ zs. z ∷ zs) (last_second (a ∷ xs) ys y h) ∙ ap (λ zs. zs ++ y ∷ []) (sym (merge-second cmp a z xs ys second))
    | inr first ↦ merge-first cmp a z xs (ys ++ y ∷ []) first ∙ ap (λ zs. a ∷ zs) (last_second xs (z ∷ ys) y h.1) ∙ ap (λ zs. zs ++ y ∷ []) (sym (merge-first cmp a z xs ys first))
  ]

  module _ (order : IsTotalOrder cmp) where
    lt_step : (y x z : X) → is_lt (cmp y x) ≡ true → cmp z x ≢ Less → is_lt (cmp y z) ≡ true
    lt_step y x z h up = elim (cases_Bool (is_lt (cmp y z))) [
      | inl less ↦ less
      | inr other ↦ absurd (ge_trans cmp order y z x (not_lt (cmp y z) other) up (lt_is (cmp y x) h))
    ]

    -- what is before the first of an ordered list is before all
    before_all : (y x : X) (xs : List X) → is_lt (cmp y x) ≡ true → IsInOrder cmp (x ∷ xs) → AllByRecursion (λ z. is_lt (cmp y z) ≡ true) (x ∷ xs)
    before_all y x [] h up = (h, tt)
    before_all y x (z ∷ xs) h up = (h, before_all y z xs (lt_step y x z h up.0) up.1)

    -- none is before what is not after the first
    none_before : (x y : X) (ys : List X) → cmp y x ≢ Less → IsInOrder cmp (y ∷ ys) → AllByRecursion (λ z. is_lt (cmp z x) ≡ false) (y ∷ ys)
    none_before x y [] h up = (is_not_lt (cmp y x) h, tt)
    none_before x y (z ∷ ys) h up = (is_not_lt (cmp y x) h, none_before x z ys (ge_trans cmp order z y x up.0 h) up.1)

    -- a merge of three lists
    merge_assoc : (xs ys zs : List X) → merge cmp xs (merge cmp ys zs) ≡ merge cmp (merge cmp xs ys) zs
    merge_assoc [] ys zs = refl
    merge_assoc (x ∷ xs) [] zs = refl
    merge_assoc (x ∷ xs) (y ∷ ys) [] = sym (merge-nil cmp (merge cmp (x ∷ xs) (y ∷ ys)))
    merge_assoc (x ∷ xs) (y ∷ ys) (z ∷ zs) = elim (cases_Bool (is_lt (cmp z y))) [
      | inl zy ↦ elim (cases_Bool (is_lt (cmp z x))) [
        | inl zx ↦
            ap (merge cmp (x ∷ xs)) (merge-second cmp y z ys zs zy) ∙ merge-second cmp x z xs (merge cmp (y ∷ ys) zs) zx ∙ ap (λ us. z ∷ us) (merge_assoc (x ∷ xs) (y ∷ ys) zs)
            ∙ elim (cases_Bool (is_lt (cmp y x))) [
              | inl yx ↦ ap (λ us. z ∷ merge cmp us zs) (merge-second cmp x y xs ys yx) ∙ sym (merge-second cmp y z (merge cmp (x ∷ xs) ys) zs zy) ∙ ap (λ us. merge cmp us (z ∷ zs)) (sym (merge-second cmp x y xs ys yx))
              | inr xy ↦ ap (λ us. z ∷ merge cmp us zs) (merge-first cmp x y xs ys xy) ∙ sym (merge-second cmp x z (merge cmp xs (y ∷ ys)) zs zx) ∙ ap (λ us. merge cmp us (z ∷ zs)) (sym (merge-first cmp x y xs ys xy))
            ]
        | inr xz ↦ elim (cases_Bool (is_lt (cmp y x))) [
          | inl yx ↦ absurd (not_lt (cmp z x) xz (order.trans z y x (lt_is (cmp z y) zy) (lt_is (cmp y x) yx)))
          | inr xy ↦
              ap (merge cmp (x ∷ xs)) (merge-second cmp y z ys zs zy) ∙ merge-first cmp x z xs (merge cmp (y ∷ ys) zs) xz ∙ ap (λ us. x ∷ merge cmp xs us) (sym (merge-second cmp y z ys zs zy)) ∙ ap (λ us. x ∷ us) (merge_assoc xs (y ∷ ys) (z ∷ zs))
              ∙ sym (merge-first cmp x z (merge cmp xs (y ∷ ys)) zs xz) ∙ ap (λ us. merge cmp us (z ∷ zs)) (sym (merge-first cmp x y xs ys xy))
        ]
      ]
      | inr yz ↦ elim (cases_Bool (is_lt (cmp y x))) [
        | inl yx ↦
            ap (merge cmp (x ∷ xs)) (merge-first cmp y z ys zs yz) ∙ merge-second cmp x y xs (merge cmp ys (z ∷ zs)) yx ∙ ap (λ us. y ∷ us) (merge_assoc (x ∷ xs) ys (z ∷ zs))
            ∙ sym (merge-first cmp y z (merge cmp (x ∷ xs) ys) zs yz) ∙ ap (λ us. merge cmp us (z ∷ zs)) (sym (merge-second cmp x y xs ys yx))
        | inr xy ↦
            let xz = is_not_lt (cmp z x) (ge_trans cmp order z y x (not_lt (cmp z y) yz) (not_lt (cmp y x) xy)) in
            ap (merge cmp (x ∷ xs)) (merge-first cmp y z ys zs yz) ∙ merge-first cmp x y xs (merge cmp ys (z ∷ zs)) xy ∙ ap (λ us. x ∷ merge cmp xs us) (sym (merge-first cmp y z ys zs yz)) ∙ ap (λ us. x ∷ us) (merge_assoc xs (y ∷ ys) (z ∷ zs))
            ∙ sym (merge-first cmp x z (merge cmp xs (y ∷ ys)) zs xz) ∙ ap (λ us. merge cmp us (z ∷ zs)) (sym (merge-first cmp x y xs ys xy))
      ]
    ]

    -- a merge with one list more
    merged_push : (xss : List (List X)) (ys : List X) → merged cmp (xss ++ ys ∷ []) ≡ merge cmp (merged cmp xss) ys
    merged_push [] ys = merge-nil cmp ys
    merged_push (xs ∷ xss) ys = ap (merge cmp xs) (merged_push xss ys) ∙ merge_assoc xs (merged cmp xss) ys

    pub merged_ordered : (xss : List (List X)) → AllByRecursion (IsInOrder cmp) xss → IsInOrder cmp (merged cmp xss)
    merged_ordered [] all = tt
    merged_ordered (xs ∷ xss) all = merge-ordered cmp order xs (merged cmp xss) all.0 (merged_ordered xss all.1)

module _ {X : Type 0} (cmp : X → X → Ordering) (order : IsTotalOrder cmp) where
  -- a merge of two lists from the back
  reverse_merge : (xs ys : List X) → IsInOrder cmp xs → IsInOrder cmp ys → reverse (merge cmp xs ys) ≡ merge (flip_args cmp) (reverse ys) (reverse xs)
  reverse_merge [] ys a b = sym (merge-nil (flip_args cmp) (reverse ys))
  reverse_merge (x ∷ xs) [] a b = refl
  reverse_merge (x ∷ xs) (y ∷ ys) a b = elim (cases_Bool (is_lt (cmp y x))) [
    | inl second ↦
        ap reverse (merge-second cmp x y xs ys second) ∙ push_reverse y (merge cmp (x ∷ xs) ys)
        ∙ ap (λ zs. zs ++ y ∷ []) (reverse_merge (x ∷ xs) ys a (tail_in_order cmp y ys b))
        ∙ sym (last_first (flip_args cmp) (reverse ys) y (reverse (x ∷ xs)) (all_reverse (λ z. is_lt (cmp y z) ≡ true) (x ∷ xs) (before_all cmp order y x xs second a)))
        ∙ ap (λ zs. merge (flip_args cmp) zs (reverse (x ∷ xs))) (sym (push_reverse y ys))
    | inr first ↦
        ap reverse (merge-first cmp x y xs ys first) ∙ push_reverse x (merge cmp xs (y ∷ ys))
        ∙ ap (λ zs. zs ++ x ∷ []) (reverse_merge xs (y ∷ ys) (tail_in_order cmp x xs a) b)
        ∙ sym (last_second (flip_args cmp) (reverse (y ∷ ys)) (reverse xs) x (all_reverse (λ z. is_lt (cmp z x) ≡ false) (y ∷ ys) (none_before cmp order x y ys (not_lt (cmp y x) first) b)))
        ∙ ap (merge (flip_args cmp) (reverse (y ∷ ys))) (sym (push_reverse x xs))
  ]

  -- of any number
  pub merged_reversed : (xss : List (List X)) → AllByRecursion (IsInOrder cmp) xss → merged (flip_args cmp) (reverse (map reverse xss)) ≡ reverse (merged cmp xss)
  merged_reversed [] all = refl
  merged_reversed (xs ∷ xss) all =
      let back = flip_args cmp in
      ap (merged back) (push_reverse (reverse xs) (map reverse xss)) ∙ merged_push back (back_total order) (reverse (map reverse xss)) (reverse xs)
      ∙ ap (λ ys. merge back ys (reverse xs)) (merged_reversed xss all.1)
      ∙ sym (reverse_merge xs (merged cmp xss) all.0 (merged_ordered cmp order xss all.1))
