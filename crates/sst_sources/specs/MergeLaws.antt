-- Laws of merges.
use Rattle.std.proofs.Common.{◌≡◌, ◌≢◌, true, false, List, [], ◌∷◌, refl, sym, subst, ◌∙◌, inl, inr}
use Rattle.std.proofs.lemmas.Bool.{cases_Bool}
use Rattle.std.specs.Cmp.{IsTotalOrder}
use Rattle.std.specs.List.{AllByRecursion}
use Rattle.std.specs.Ordering.{is_lt, ordering_reverse}
use Rattle.std.specs.declared.cmp.Ordering.{Ordering}
use Rattle.std.specs.declared.cmp.Ordering.TheVariants.{Less, Equal, Greater}
use Rattle.sstable_blocks.specs.Prelude.{IsInOrder}
use Rattle.sstable_blocks.specs.BlockLaws.{not_lt}
use Rattle.sst_sources.specs.Merge.{merge, merge_after}

module _ {X : Type 0} (cmp : X → X → Ordering) where
  -- merging with nothing
  pub merge-nil : (xs : List X) → merge cmp xs [] ≡ xs
  merge-nil [] = refl
  merge-nil (x ∷ xs) = refl

  -- the first item of the second list is the lesser
  pub merge-second : (x y : X) (xs ys : List X) → is_lt (cmp y x) ≡ true → merge cmp (x ∷ xs) (y ∷ ys) ≡ y ∷ merge cmp (x ∷ xs) ys
  merge-second x y xs ys h = rw h refl

  -- it is not
  pub merge-first : (x y : X) (xs ys : List X) → is_lt (cmp y x) ≡ false → merge cmp (x ∷ xs) (y ∷ ys) ≡ x ∷ merge cmp xs (y ∷ ys)
  merge-first x y xs ys h = rw h refl

  -- what holds of all items of lists holds of all of their merge
  pub all_merge : (P : X → Type 0) (xs ys : List X) → AllByRecursion P xs → AllByRecursion P ys → AllByRecursion P (merge cmp xs ys)
  all_merge P [] ys a b = b
  all_merge P (x ∷ xs) [] a b = a
  all_merge P (x ∷ xs) (y ∷ ys) a b = elim (cases_Bool (is_lt (cmp y x))) [
    | inl second ↦ subst (AllByRecursion P) (sym (merge-second x y xs ys second)) (b.0, all_merge P (x ∷ xs) ys a b.1)
    | inr first ↦ subst (AllByRecursion P) (sym (merge-first x y xs ys first)) (a.0, all_merge P xs (y ∷ ys) a.1 b)
  ]

  -- P holds of the first item, and no item sorts before its predecessor
  abbrev pub Rises : (X → Type 0) → List X → Type 0
  Rises P [] = Unit {0}
  Rises P (x ∷ xs) = P x × Rises (λ y. cmp y x ≢ Less) xs

  rises_behind : (x : X) (xs : List X) → IsInOrder cmp (x ∷ xs) → Rises (λ y. cmp y x ≢ Less) xs
  rises_behind x [] h = tt
  rises_behind x (y ∷ ys) h = (h.0, rises_behind y ys h.1)

  pub rises : (xs : List X) → IsInOrder cmp xs → Rises (λ y. Unit {0}) xs
  rises [] h = tt
  rises (x ∷ xs) h = (tt, rises_behind x xs h)

  pub in_order : (P : X → Type 0) (xs : List X) → Rises P xs → IsInOrder cmp xs
  in_order P [] h = tt
  in_order P (x ∷ []) h = tt
  in_order P (x ∷ y ∷ ys) h = (h.1.0, in_order (λ z. cmp z x ≢ Less) (y ∷ ys) h.1)

  below : (o : Ordering) → is_lt o ≡ true → ordering_reverse o ≢ Less
  below Less h e = absurd (cc)
  below Equal h e = absurd (cc)
  below Greater h e = absurd (cc)

  module _ (order : IsTotalOrder cmp) where
    rises_at : (x : X) (xs : List X) (after : List X → List X) → Rises (λ y. cmp y x ≢ Less) xs
        → ((ys : List X) → Rises (λ y. cmp y x ≢ Less) ys → Rises (λ y. cmp y x ≢ Less) (after ys))
        → (ys : List X) (P : X → Type 0) → P x → Rises P ys → Rises P (merge_after cmp x xs after ys)
    rises_at x xs after rest go [] P p h = (p, rest)
    rises_at x xs after rest go (y ∷ ys) P p h = elim (cases_Bool (is_lt (cmp y x))) [
      | inl second ↦ rw second (h.0, rises_at x xs after rest go ys (λ z. cmp z y ≢ Less) (λ e. below (cmp y x) second (sym (order.antisymm x y) ∙ e)) h.1)
      | inr first ↦ rw first (p, go (y ∷ ys) (not_lt (cmp y x) first, h.1))
    ]

    rises_merge : (xs ys : List X) (P : X → Type 0) → Rises P xs → Rises P ys → Rises P (merge cmp xs ys)
    rises_merge [] ys P a b = b
    rises_merge (x ∷ xs) ys P a b = rises_at x xs (merge cmp xs) a.1 (λ zs h. rises_merge xs zs (λ y. cmp y x ≢ Less) a.1 h) ys P a.0 b

    -- a merge of ordered lists is ordered
    pub merge-ordered : (xs ys : List X) → IsInOrder cmp xs → IsInOrder cmp ys → IsInOrder cmp (merge cmp xs ys)
    merge-ordered xs ys a b = in_order (λ y. Unit {0}) (merge cmp xs ys) (rises_merge xs ys (λ y. Unit {0}) (rises xs a) (rises ys b))
