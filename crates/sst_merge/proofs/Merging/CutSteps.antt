-- Laws of cuts that are moved: by a step, by a search; and which of two is before the other.
use Rattle.std.proofs.Common.{◌≡◌, ◌≢◌, ℕ, zero, suc, ◌+◌, ◌<◌, ◌≤◌, Bool, true, false, not, cond, nat_lt, List, [], ◌∷◌, length, Some, slice_get, refl, sym, ap, ◌∙◌, inl, inr, ◌⊎◌, arith}
use Rattle.std.proofs.lemmas.Bool.{cases_Bool, cases_lt, lt-ltb, le-ltb, cases_eq}
use Rattle.std.proofs.lemmas.Option.{slice_get_within}
use Rattle.std.proofs.lemmas.List.Sums.{sum_by-cons}
use Rattle.std.specs.Cmp.{IsTotalOrder}
use Rattle.std.specs.List.{count_by}
use Rattle.std.specs.Ordering.{is_lt, ordering_reverse}
use Rattle.std.specs.declared.cmp.Ordering.{Ordering}
use Rattle.std.specs.declared.cmp.Ordering.TheVariants.{Less, Equal, Greater}
use Rattle.sstable_blocks.specs.Prelude.{IsInOrder}
use Rattle.sstable_blocks.specs.BlockLaws.{not_true, some_is, lt_is, not_lt, is_not_lt}
use Rattle.sst_sources.specs.MergeReads.{ge_trans}
use Rattle.sst_sources.specs.Merge.{merge, merged}
use Rattle.sst_sources.specs.MergeLaws.{merge-first, merge-second}
use Rattle.sst_merge.proofs.Merging.CutLaws.{length-merge}
use Rattle.sst_sources.specs.Picks.{list_at}
use Rattle.sst_merge.specs.Cuts.{IsItem, comes_first, IsCut, IsNext, IsFirstList, IsLastList, total}
use Rattle.sstable_blocks.specs.EndLaws.{tail_in_order}
use Rattle.sstable_blocks.specs.BetweenLaws.{item_found}

module _ {X : Type 0} (cmp : X → X → Ordering) where
  -- of two lists' items one comes first, and not the other
  not_both : (i j : ℕ) (x y : X) → i ≢ j → comes_first cmp (nat_lt j i) x y ≡ true → comes_first cmp (nat_lt i j) y x ≡ true → ⊥
  not_both i j x y differ p q = elim (cases_lt i j) [
    | inl less ↦
        (let a : not (is_lt (cmp y x)) ≡ true = ap (λ later. comes_first cmp later x y) (sym (le-ltb j i (omega (arith, less)))) ∙ p in
        let b : is_lt (cmp y x) ≡ true = ap (λ later. comes_first cmp later y x) (sym (lt-ltb i j less)) ∙ q in
        let c = not_true (is_lt (cmp y x)) a in cc)
    | inr more ↦
        (let less : j < i = omega (arith, more, differ) in
        let a : is_lt (cmp x y) ≡ true = ap (λ later. comes_first cmp later x y) (sym (lt-ltb j i less)) ∙ p in
        let b : not (is_lt (cmp x y)) ≡ true = ap (λ later. comes_first cmp later y x) (sym (le-ltb i j more)) ∙ q in
        let c = not_true (is_lt (cmp x y)) b in cc)
  ]

  module _ (order : IsTotalOrder cmp) where
    pub lt_ge : (y x z : X) → is_lt (cmp y x) ≡ true → is_lt (cmp z x) ≡ false → is_lt (cmp y z) ≡ true
    lt_ge y x z h up = elim (cases_Bool (is_lt (cmp y z))) [
      | inl less ↦ less
      | inr other ↦ absurd (ge_trans cmp order y z x (not_lt (cmp y z) other) (not_lt (cmp z x) up) (lt_is (cmp y x) h))
    ]

    pub ge_lt : (x y z : X) → is_lt (cmp y x) ≡ false → is_lt (cmp y z) ≡ true → is_lt (cmp x z) ≡ true
    ge_lt x y z up h = elim (cases_Bool (is_lt (cmp x z))) [
      | inl less ↦ less
      | inr other ↦ absurd (ge_trans cmp order y x z (not_lt (cmp y x) up) (not_lt (cmp x z) other) (lt_is (cmp y z) h))
    ]

    pub ge_ge : (x y z : X) → is_lt (cmp y x) ≡ false → is_lt (cmp z y) ≡ false → is_lt (cmp z x) ≡ false
    ge_ge x y z up h = is_not_lt (cmp z x) (ge_trans cmp order z y x (not_lt (cmp z y) h) (not_lt (cmp y x) up))

    turned_by : (x y : X) (o : Ordering) → cmp x y ≡ o → is_lt o ≡ true → is_lt (cmp y x) ≡ false
    turned_by x y Less e h = ap is_lt (order.antisymm y x ∙ ap ordering_reverse e)
    turned_by x y Equal e h = absurd (cc)
    turned_by x y Greater e h = absurd (cc)

    pub turned : (x y : X) → is_lt (cmp x y) ≡ true → is_lt (cmp y x) ≡ false
    turned x y h = turned_by x y (cmp x y) refl h

    -- an item comes before what is not before one that it comes before
    before_later : (t : Bool) (x y z : X) → comes_first cmp t x y ≡ true → is_lt (cmp z y) ≡ false → comes_first cmp t x z ≡ true
    before_later false x y z p up = ap not (ge_ge x y z (not_true (is_lt (cmp y x)) p) up)
    before_later true x y z p up = lt_ge x y z p up

    earlier_before : (t : Bool) (x y z : X) → is_lt (cmp y x) ≡ false → comes_first cmp t y z ≡ true → comes_first cmp t x z ≡ true
    earlier_before false x y z up p = ap not (ge_ge x y z up (not_true (is_lt (cmp z y)) p))
    earlier_before true x y z up p = ge_lt x y z up p

    pub weakly : (t : Bool) (x y : X) → comes_first cmp t x y ≡ true → is_lt (cmp y x) ≡ false
    weakly false x y p = not_true (is_lt (cmp y x)) p
    weakly true x y p = turned x y p

    pub strictly : (t : Bool) (x y : X) → is_lt (cmp x y) ≡ true → comes_first cmp t x y ≡ true
    strictly false x y p = ap not (turned x y p)
    strictly true x y p = p

    above_first : (x : X) (xs : List X) (b : ℕ) (y : X) → IsInOrder cmp (x ∷ xs) → slice_get xs b ≡ Some y → is_lt (cmp y x) ≡ false
    above_first x [] b y up at = absurd (cc)
    above_first x (z ∷ xs) zero y up at = (let e : z ≡ y = some_is z y at in ap (λ w. is_lt (cmp w x)) (sym e) ∙ is_not_lt (cmp z x) up.0)
    above_first x (z ∷ xs) (suc b) y up at = ge_ge x z y (is_not_lt (cmp z x) up.0) (above_first z xs b y up.1 at)

    itself : (x : X) (o : Ordering) → cmp x x ≡ o → is_lt o ≡ false
    itself x Less e = absurd (let d : Less ≡ Greater = sym e ∙ order.antisymm x x ∙ ap ordering_reverse e in cc)
    itself x Equal e = refl
    itself x Greater e = refl

    pub not_itself : (x : X) → is_lt (cmp x x) ≡ false
    not_itself x = itself x (cmp x x) refl

    rising : (xs : List X) (a b : ℕ) (x y : X) → IsInOrder cmp xs → slice_get xs a ≡ Some x → slice_get xs b ≡ Some y → a ≤ b → is_lt (cmp y x) ≡ false
    rising [] a b x y up p q less = absurd (cc)
    rising (z ∷ xs) zero zero x y up p q less =
        (let e : z ≡ x = some_is z x p in let d : z ≡ y = some_is z y q in ap (λ w. is_lt (cmp w x)) (sym d ∙ e) ∙ itself x (cmp x x) refl)
    rising (z ∷ xs) zero (suc b) x y up p q less = (let e : z ≡ x = some_is z x p in ap (λ w. is_lt (cmp y w)) (sym e) ∙ above_first z xs b y up q)
    rising (z ∷ xs) (suc a) zero x y up p q less = absurd (omega (arith, less))
    rising (z ∷ xs) (suc a) (suc b) x y up p q less = rising xs a b x y (tail_in_order cmp z xs up) p q (omega (arith, less))

    module _ (xss : List (List X)) (up : (i : ℕ) → IsInOrder cmp (list_at xss i)) where
      there : (i a b : ℕ) (x : X) → IsItem xss i b x → a ≤ b → (y : X) × (IsItem xss i a y)
      there i a b x at less = item_found (list_at xss i) a (omega (arith, less, slice_get_within (list_at xss i) b x at))

      -- the item of another list at or after a count comes after the item that comes first
      after_first : (cut : ℕ → ℕ) (p : ℕ) (x : X) → IsFirstList cmp xss cut p → IsItem xss p (cut p) x → (j b : ℕ) (y : X) → p ≢ j → IsItem xss j b y → cut j ≤ b → comes_first cmp (nat_lt j p) x y ≡ true
      after_first cut p x pick here j b y differ at more =
          let head = there j (cut j) b y at more in
          let won = pick.before j head.0 head.1 in
          let same : won.0 ≡ x = some_is won.0 x (sym won.1 ∙ here) in
          before_later (nat_lt j p) x head.0 y (ap (λ w. comes_first cmp (nat_lt j p) w head.0) (sym same) ∙ won.2 differ) (rising (list_at xss j) (cut j) b head.0 y (up j) head.1 at more)

      -- a step from the front
      pub cut_forth : (p : ℕ) (f g : ℕ → ℕ) (x : X) → IsCut cmp xss f → IsFirstList cmp xss f p → IsItem xss p (f p) x → IsNext p f g → IsCut cmp xss g
      cut_forth p f g x cut pick here n i j a b v w differ at_v at_w less more = elim (cases_eq i p) [
        | inr other ↦ cut i j a b v w differ at_v at_w (let e = n.others i other in omega (arith, e, less)) (shrunk (cases_eq j p))
        | inl same ↦ elim (cases_lt a (f p)) [
          | inl old ↦ cut i j a b v w differ at_v at_w (let e = ap f same in omega (arith, e, old)) (shrunk (cases_eq j p))
          | inr new ↦
              (let e = n.here in
              let d = ap g same in
              let place : a ≡ f p = omega (arith, e, d, less, new) in
              let is : v ≡ x = some_is v x (sym at_v ∙ ap (λ k. slice_get (list_at xss i) k) place ∙ ap (λ k. slice_get (list_at xss k) (f p)) same ∙ here) in
              let apart : p ≢ j = λ q. differ (same ∙ q) in
              let goes = after_first f p x pick here j b w apart at_w (shrunk (cases_eq j p)) in
              ap (λ k. comes_first cmp (nat_lt j k) v w) same ∙ ap (λ u. comes_first cmp (nat_lt j p) u w) is ∙ goes)
        ]
      ]
        where
          shrunk : (j ≡ p) ⊎ (j ≢ p) → f j ≤ b
          shrunk (inl e) = (let h = n.here in let k = ap f e in let l = ap g e in omega (arith, h, k, l, more))
          shrunk (inr e) = (let h = n.others j e in omega (arith, h, more))

      -- the item of another list before a count comes before the item that comes last
      before_last : (cut : ℕ → ℕ) (q c : ℕ) (x : X) → IsLastList cmp xss cut q → cut q ≡ suc c → IsItem xss q c x → (i a n : ℕ) (v : X) → q ≢ i → IsItem xss i a v → cut i ≡ n → n ≤ length (list_at xss i) → a < n → comes_first cmp (nat_lt q i) v x ≡ true
      before_last cut q c x pick count here i a zero v differ at size inside less = absurd (omega (arith, less))
      before_last cut q c x pick count here i a (suc b) v differ at size inside less =
          let last = item_found (list_at xss i) b (omega (arith, inside)) in
          let won = pick.after i b last.0 size last.1 in
          let place : won.0 ≡ c = (let e = won.2 in omega (arith, e, count)) in
          let same : won.1 ≡ x = some_is won.1 x (sym won.3 ∙ ap (slice_get (list_at xss q)) place ∙ here) in
          earlier_before (nat_lt q i) v last.0 x (rising (list_at xss i) a b v last.0 (up i) at last.1 (omega (arith, less))) (ap (λ w. comes_first cmp (nat_lt q i) last.0 w) (sym same) ∙ won.4 differ)

      -- a step from the back
      pub cut_back : (q : ℕ) (f g : ℕ → ℕ) (x : X) → IsCut cmp xss f → IsLastList cmp xss f q → IsItem xss q (g q) x → IsNext q g f → ((i : ℕ) → f i ≤ length (list_at xss i)) → IsCut cmp xss g
      cut_back q f g x cut pick here n inside i j a b v w differ at_v at_w less more = elim (cases_eq j q) [
        | inr other ↦ cut i j a b v w differ at_v at_w (grown (cases_eq i q)) (let e = n.others j other in omega (arith, e, more))
        | inl same ↦ elim (cases_lt b (f q)) [
          | inr old ↦ cut i j a b v w differ at_v at_w (grown (cases_eq i q)) (let e = ap f same in omega (arith, e, old))
          | inl new ↦
              (let e = n.here in
              let d = ap g same in
              let place : b ≡ g q = omega (arith, e, d, more, new) in
              let is : w ≡ x = some_is w x (sym at_w ∙ ap (λ k. slice_get (list_at xss j) k) place ∙ ap (λ k. slice_get (list_at xss k) (g q)) same ∙ here) in
              let apart : q ≢ i = λ p. differ (sym p ∙ sym same) in
              let goes = before_last f q (g q) x pick n.here here i a (f i) v apart at_v refl (inside i) (grown (cases_eq i q)) in
              ap (λ k. comes_first cmp (nat_lt k i) v w) same ∙ ap (λ u. comes_first cmp (nat_lt q i) v u) is ∙ goes)
        ]
      ]
        where
          grown : (i ≡ q) ⊎ (i ≢ q) → a < f i
          grown (inl e) = (let h = n.here in let k = ap f e in let l = ap g e in omega (arith, h, k, l, less))
          grown (inr e) = (let h = n.others i e in omega (arith, h, less))

      -- Two cuts: one takes no less of any list than the other.
      pub all_before : (f g : ℕ → ℕ) (p : ℕ) → IsCut cmp xss f → IsCut cmp xss g → ((i : ℕ) → f i ≤ length (list_at xss i)) → ((i : ℕ) → g i ≤ length (list_at xss i)) → f p < g p → (j : ℕ) → f j ≤ g j
      all_before f g p one other short long less j = elim (cases_lt (g j) (f j)) [
        | inr more ↦ more
        | inl fewer ↦
            (let x = item_found (list_at xss p) (f p) (let h = long p in omega (arith, h, less)) in
            let y = item_found (list_at xss j) (g j) (let h = short j in omega (arith, h, fewer)) in
            let apart : p ≢ j = λ e. (let h = ap f e in let k = ap g e in omega (arith, h, k, less, fewer)) in
            absurd (not_both p j x.0 y.0 apart (other p j (f p) (g j) x.0 y.0 apart x.1 y.1 less (omega arith)) (one j p (g j) (f p) y.0 x.0 (λ e. apart (sym e)) y.1 x.1 fewer (omega arith))))
      ]

      -- where the list that gives its item first has none left before the other cut, none has
      pub none_first : (f g : ℕ → ℕ) (p : ℕ) → IsCut cmp xss g → IsFirstList cmp xss f p → ((i : ℕ) → g i ≤ length (list_at xss i)) → g p ≤ f p → (j : ℕ) → g j ≤ f j
      none_first f g p other pick long none j = elim (cases_lt (f j) (g j)) [
        | inr more ↦ more
        | inl less ↦
            (let y = item_found (list_at xss j) (f j) (let h = long j in omega (arith, h, less)) in
            let won = pick.before j y.0 y.1 in
            let apart : p ≢ j = λ e. (let h = ap f e in let k = ap g e in omega (arith, h, k, less, none)) in
            absurd (not_both p j won.0 y.0 apart (won.2 apart) (other j p (f j) (f p) y.0 won.0 (λ e. apart (sym e)) y.1 won.1 less none)))
      ]

      -- and from the back
      pub none_last : (f g : ℕ → ℕ) (q : ℕ) → IsCut cmp xss f → IsLastList cmp xss g q → ((i : ℕ) → g i ≤ length (list_at xss i)) → g q ≤ f q → (j : ℕ) → g j ≤ f j
      none_last f g q one pick long none j = by (g j) refl
        where
          by : (n : ℕ) → g j ≡ n → g j ≤ f j
          by zero e = omega (arith, e)
          by (suc b) e = elim (cases_lt (f j) (g j)) [
            | inr more ↦ more
            | inl less ↦
                (let y = item_found (list_at xss j) b (let h = long j in omega (arith, h, e)) in
                let won = pick.after j b y.0 e y.1 in
                let count = won.2 in
                let apart : q ≢ j = λ d. (let h = ap f d in let k = ap g d in omega (arith, h, k, less, none)) in
                absurd (not_both j q y.0 won.1 (λ d. apart (sym d)) (won.4 apart) (one q j won.0 b won.1 y.0 apart won.3 y.1 (omega (arith, count, none)) (omega (arith, e, less)))))
          ]

-- what a test that some items of an ordered list pass says of the others: those that pass it are before those that do not
abbrev pub Separates : {X : Type 0} → (X → X → Ordering) → (X → Bool) → Type 0
Separates {X = X} cmp test = (x y : X) → test x ≡ true → test y ≡ false → is_lt (cmp x y) ≡ true

module _ {X : Type 0} (test : X → Bool) where
  pub count_yes : (x : X) (xs : List X) → test x ≡ true → count_by test (x ∷ xs) ≡ suc (count_by test xs)
  count_yes x xs h = (let e : count_by test (x ∷ xs) ≡ cond (test x) 1 0 + count_by test xs = sum_by-cons (λ (z : X). cond (test z) 1 0) x xs in let d : ◌≡◌ {A = ℕ} (cond (test x) 1 0) 1 = ap {B = ℕ} (λ b. cond b 1 0) h in omega (arith, e, d))

  pub count_no : (x : X) (xs : List X) → test x ≡ false → count_by test (x ∷ xs) ≡ count_by test xs
  count_no x xs h = (let e : count_by test (x ∷ xs) ≡ cond (test x) 1 0 + count_by test xs = sum_by-cons (λ (z : X). cond (test z) 1 0) x xs in let d : ◌≡◌ {A = ℕ} (cond (test x) 1 0) 0 = ap {B = ℕ} (λ b. cond b 1 0) h in omega (arith, e, d))

module _ {X : Type 0} (cmp : X → X → Ordering) (order : IsTotalOrder cmp) (test : X → Bool) (apart : Separates cmp test) where
  -- after an item that does not pass it none does
  none_after : (x : X) (xs : List X) → IsInOrder cmp (x ∷ xs) → test x ≡ false → count_by test xs ≡ 0
  none_after x [] up failed = refl
  none_after x (y ∷ ys) up failed = elim (cases_Bool (test y)) [
    | inl passed ↦ absurd (up.0 (lt_is (cmp y x) (apart y x passed failed)))
    | inr other ↦ count_no test y ys other ∙ none_after y ys up.1 other
  ]

  none_counted : (z : X) (xs : List X) → IsInOrder cmp (z ∷ xs) → test z ≡ false → count_by test (z ∷ xs) ≡ 0
  none_counted z xs up failed = count_no test z xs failed ∙ none_after z xs up failed

  pub passes_before : (xs : List X) (a : ℕ) (x : X) → IsInOrder cmp xs → slice_get xs a ≡ Some x → a < count_by test xs → test x ≡ true
  passes_before [] a x up at less = absurd (cc)
  passes_before (z ∷ xs) zero x up at less = elim (cases_Bool (test z)) [
    | inl passed ↦ (let e : z ≡ x = some_is z x at in ap test (sym e) ∙ passed)
    | inr failed ↦ absurd (let e = none_counted z xs up failed in omega (arith, e, less))
  ]
  passes_before (z ∷ xs) (suc a) x up at less = elim (cases_Bool (test z)) [
    | inl passed ↦ passes_before xs a x (tail_in_order cmp z xs up) at (let e = count_yes test z xs passed in omega (arith, e, less))
    | inr failed ↦ absurd (let e = none_counted z xs up failed in omega (arith, e, less))
  ]

  pub fails_after : (xs : List X) (a : ℕ) (x : X) → IsInOrder cmp xs → slice_get xs a ≡ Some x → count_by test xs ≤ a → test x ≡ false
  fails_after [] a x up at more = absurd (cc)
  fails_after (z ∷ xs) zero x up at more = elim (cases_Bool (test z)) [
    | inl passed ↦ absurd (let e = count_yes test z xs passed in omega (arith, e, more))
    | inr failed ↦ (let e : z ≡ x = some_is z x at in ap test (sym e) ∙ failed)
  ]
  fails_after (z ∷ xs) (suc a) x up at more = elim (cases_Bool (test z)) [
    | inl passed ↦ fails_after xs a x (tail_in_order cmp z xs up) at (let e = count_yes test z xs passed in omega (arith, e, more))
    | inr failed ↦ fails_after xs a x (tail_in_order cmp z xs up) at (let d = none_after z xs up failed in omega (arith, d))
  ]

  -- the counts of what passes it are a cut
  pub cut_by : (xss : List (List X)) → ((i : ℕ) → IsInOrder cmp (list_at xss i)) → IsCut cmp xss (λ i. count_by test (list_at xss i))
  cut_by xss up i j a b x y differ p q less more =
      strictly cmp order (nat_lt j i) x y
      (apart x y (passes_before (list_at xss i) a x (up i) p less) (fails_after (list_at xss j) b y (up j) q more))

  -- and as many of the merge pass it
  count-merge : (xs ys : List X) → count_by test (merge cmp xs ys) ≡ count_by test xs + count_by test ys
  count-merge [] ys = omega arith
  count-merge (x ∷ xs) [] = omega arith
  count-merge (x ∷ xs) (y ∷ ys) = elim (cases_Bool (is_lt (cmp y x))) [
    | inl second ↦ ap (count_by test) (merge-second cmp x y xs ys second) ∙ more y (merge cmp (x ∷ xs) ys) ys (count_by test (x ∷ xs)) (count-merge (x ∷ xs) ys)
    | inr first ↦ ap (count_by test) (merge-first cmp x y xs ys first) ∙ less x (merge cmp xs (y ∷ ys)) xs (count_by test (y ∷ ys)) (count-merge xs (y ∷ ys))
  ]
    where
      more : (y : X) (zs ys : List X) (n : ℕ) → count_by test zs ≡ n + count_by test ys → count_by test (y ∷ zs) ≡ n + count_by test (y ∷ ys)
      more y zs ys n e = elim (cases_Bool (test y)) [
        | inl passed ↦ (let a = count_yes test y zs passed in let b = count_yes test y ys passed in omega (arith, a, b, e))
        | inr failed ↦ (let a = count_no test y zs failed in let b = count_no test y ys failed in omega (arith, a, b, e))
      ]

      less : (x : X) (zs xs : List X) (n : ℕ) → count_by test zs ≡ count_by test xs + n → count_by test (x ∷ zs) ≡ count_by test (x ∷ xs) + n
      less x zs xs n e = elim (cases_Bool (test x)) [
        | inl passed ↦ (let a = count_yes test x zs passed in let b = count_yes test x xs passed in omega (arith, a, b, e))
        | inr failed ↦ (let a = count_no test x zs failed in let b = count_no test x xs failed in omega (arith, a, b, e))
      ]

  pub count_merged : (xss : List (List X)) → total xss (λ i. count_by test (list_at xss i)) ≡ count_by test (merged cmp xss)
  count_merged [] = refl
  count_merged (xs ∷ xss) = (let e = count_merged xss in let d = count-merge xs (merged cmp xss) in omega (arith, e, d))

-- The first places and the last.
module _ {X : Type 0} (cmp : X → X → Ordering) where
  pub cut_none : (xss : List (List X)) → IsCut cmp xss (λ i. 0)
  cut_none xss i j a b x y differ p q less more = absurd (omega (arith, less))

  pub cut_all : (xss : List (List X)) → IsCut cmp xss (λ i. length (list_at xss i))
  cut_all xss i j a b x y differ p q less more = absurd (let n = slice_get_within (list_at xss j) b y q in omega (arith, n, more))

  pub total_none : (xss : List (List X)) → total xss (λ i. 0) ≡ 0
  total_none [] = refl
  total_none (xs ∷ xss) = (let e = total_none xss in omega (arith, e))

  pub total_all : (xss : List (List X)) → total xss (λ i. length (list_at xss i)) ≡ length (merged cmp xss)
  total_all [] = refl
  total_all (xs ∷ xss) = (let e = total_all xss in let d = length-merge cmp xs (merged cmp xss) in omega (arith, e, d))

-- Sums of counts.
module _ {X : Type 0} where
  pub total_same : (xss : List (List X)) (f g : ℕ → ℕ) → ((i : ℕ) → f i ≡ g i) → total xss f ≡ total xss g
  total_same [] f g h = refl
  total_same (xs ∷ xss) f g h = (let e = total_same xss (λ i. f (suc i)) (λ i. g (suc i)) (λ i. h (suc i)) in let d = h zero in omega (arith, e, d))

  pub total_le : (xss : List (List X)) (f g : ℕ → ℕ) → ((i : ℕ) → f i ≤ g i) → total xss f ≤ total xss g
  total_le [] f g h = omega arith
  total_le (xs ∷ xss) f g h = (let e = total_le xss (λ i. f (suc i)) (λ i. g (suc i)) (λ i. h (suc i)) in let d = h zero in omega (arith, e, d))

  pub total_lt : (xss : List (List X)) (f g : ℕ → ℕ) (p : ℕ) → p < length xss → ((i : ℕ) → f i ≤ g i) → f p < g p → total xss f < total xss g
  total_lt [] f g p inside h less = absurd (omega (arith, inside))
  total_lt (xs ∷ xss) f g zero inside h less = (let e = total_le xss (λ i. f (suc i)) (λ i. g (suc i)) (λ i. h (suc i)) in omega (arith, e, less))
  total_lt (xs ∷ xss) f g (suc p) inside h less =
      (let e = total_lt xss (λ i. f (suc i)) (λ i. g (suc i)) p (omega (arith, inside)) (λ i. h (suc i)) less in let d = h zero in omega (arith, e, d))

  pub total_next : (xss : List (List X)) (f g : ℕ → ℕ) (p : ℕ) → p < length xss → IsNext p f g → total xss g ≡ suc (total xss f)
  total_next [] f g p inside n = absurd (omega (arith, inside))
  total_next (xs ∷ xss) f g zero inside n =
      (let e = total_same xss (λ i. g (suc i)) (λ i. f (suc i)) (λ i. n.others (suc i) (λ q. omega (arith, q))) in let d = n.here in omega (arith, e, d))
  total_next (xs ∷ xss) f g (suc p) inside n =
      (let e = total_next xss (λ i. f (suc i)) (λ i. g (suc i)) p (omega (arith, inside)) (record { here = n.here; others = λ i q. n.others (suc i) (λ r. q (omega (arith, r))) }) in
      let d = n.others zero (λ q. omega (arith, q)) in omega (arith, e, d))
