-- Laws of cuts.
use Rattle.std.proofs.Common.{◌≡◌, ◌≢◌, ℕ, zero, suc, ◌+◌, ◌<◌, ◌≤◌, true, false, List, [], ◌∷◌, ◌++◌, length, take, drop, Some, slice_get, refl, sym, ap, subst, ◌∙◌, inl, inr, ◌⊎◌, arith}
use Rattle.std.proofs.lemmas.Bool.{cases_Bool, cases_lt, lt-ltb, le-ltb, cases_eq}
use Rattle.std.proofs.lemmas.List.{take-append-drop, length-take-le}
use Rattle.std.specs.List.{AllByRecursion}
use Rattle.std.specs.Ordering.{is_lt}
use Rattle.std.specs.declared.cmp.Ordering.{Ordering}
use Rattle.sstable_blocks.specs.BlockLaws.{not_true, some_is}
use Rattle.sst_sources.specs.Merge.{merge, merged}
use Rattle.sst_sources.specs.MergeLaws.{merge-nil, merge-first, merge-second, all_merge}
use Rattle.sst_sources.specs.Picks.{list_at}
use Rattle.sst_merge.specs.Cuts.{IsItem, comes_first, IsCut, IsNext, total, fronts, rests}
use Rattle.sst_sources.specs.ListLaws.{lt_suc}

-- an item of a list that is cut
all_taken : {X : Type 0} (P : X → Type 0) (xs : List X) (n : ℕ) → ((a : ℕ) (x : X) → slice_get xs a ≡ Some x → a < n → P x) → AllByRecursion P (take n xs)
all_taken P [] zero h = tt
all_taken P [] (suc n) h = tt
all_taken P (x ∷ xs) zero h = tt
all_taken P (x ∷ xs) (suc n) h = (h zero x refl (omega arith), all_taken P xs n (λ a y at less. h (suc a) y at (omega (arith, less))))

all_left : {X : Type 0} (P : X → Type 0) (xs : List X) (n : ℕ) → ((a : ℕ) (x : X) → slice_get xs a ≡ Some x → n ≤ a → P x) → AllByRecursion P (drop n xs)
all_left P [] zero h = tt
all_left P [] (suc n) h = tt
all_left P (x ∷ xs) zero h = (h zero x refl (omega arith), all_left P xs zero (λ a y at less. h (suc a) y at (omega arith)))
all_left P (x ∷ xs) (suc n) h = all_left P xs n (λ a y at less. h (suc a) y at (omega (arith, less)))

module _ {X : Type 0} (cmp : X → X → Ordering) where
  all_fronts : (P : X → Type 0) (xss : List (List X)) (cut : ℕ → ℕ) → ((j b : ℕ) (y : X) → IsItem xss j b y → b < cut j → P y) → AllByRecursion P (merged cmp (fronts xss cut))
  all_fronts P [] cut h = tt
  all_fronts P (xs ∷ xss) cut h =
      all_merge cmp P (take (cut zero) xs) (merged cmp (fronts xss (λ i. cut (suc i)))) (all_taken P xs (cut zero) (λ a x at less. h zero a x at less))
      (all_fronts P xss (λ i. cut (suc i)) (λ j b y at less. h (suc j) b y at less))

  all_rests : (P : X → Type 0) (xss : List (List X)) (cut : ℕ → ℕ) → ((j b : ℕ) (y : X) → IsItem xss j b y → cut j ≤ b → P y) → AllByRecursion P (merged cmp (rests xss cut))
  all_rests P [] cut h = tt
  all_rests P (xs ∷ xss) cut h =
      all_merge cmp P (drop (cut zero) xs) (merged cmp (rests xss (λ i. cut (suc i)))) (all_left P xs (cut zero) (λ a x at less. h zero a x at less))
      (all_rests P xss (λ i. cut (suc i)) (λ j b y at less. h (suc j) b y at less))

  -- two lists whose fronts come before the rest of both
  abbrev NoneBelow : List X → X → Type 0
  NoneBelow xs y = AllByRecursion (λ x. is_lt (cmp y x) ≡ false) xs

  abbrev IsBelow : List X → X → Type 0
  IsBelow xs y = AllByRecursion (λ x. is_lt (cmp y x) ≡ true) xs

  shorter : (a : X) (es ds : List X) → AllByRecursion (NoneBelow (a ∷ es)) ds → AllByRecursion (NoneBelow es) ds
  shorter a es [] h = tt
  shorter a es (d ∷ ds) h = (h.0.1, shorter a es ds h.1)

  split_two : (es bs cs ds : List X) → AllByRecursion (NoneBelow es) ds → AllByRecursion (IsBelow bs) cs → merge cmp (es ++ bs) (cs ++ ds) ≡ merge cmp es cs ++ merge cmp bs ds
  split_two [] bs [] ds p q = refl
  split_two [] [] (c ∷ cs) ds p q = refl
  split_two [] (b ∷ bs) (c ∷ cs) ds p q = merge-second cmp b c bs (cs ++ ds) q.0.0 ∙ ap (λ zs. c ∷ zs) (split_two [] (b ∷ bs) cs ds p q.1)
  split_two (a ∷ es) bs [] [] p q = ap (λ zs. (a ∷ es) ++ zs) (sym (merge-nil cmp bs))
  split_two (a ∷ es) bs [] (d ∷ ds) p q =
      merge-first cmp a d (es ++ bs) ds p.0.0
      ∙ ap (λ zs. a ∷ zs) (split_two es bs [] (d ∷ ds) (shorter a es (d ∷ ds) p) q ∙ ap (λ zs. zs ++ merge cmp bs (d ∷ ds)) (merge-nil cmp es))
  split_two (a ∷ es) bs (c ∷ cs) ds p q = elim (cases_Bool (is_lt (cmp c a))) [
    | inl second ↦
        merge-second cmp a c (es ++ bs) (cs ++ ds) second ∙ ap (λ zs. c ∷ zs) (split_two (a ∷ es) bs cs ds p q.1)
        ∙ ap (λ zs. zs ++ merge cmp bs ds) (sym (merge-second cmp a c es cs second))
    | inr first ↦
        merge-first cmp a c (es ++ bs) (cs ++ ds) first ∙ ap (λ zs. a ∷ zs) (split_two es bs (c ∷ cs) ds (shorter a es ds p) q)
        ∙ ap (λ zs. zs ++ merge cmp bs ds) (sym (merge-first cmp a c es cs first))
  ]

  cut_tail : (xs : List X) (xss : List (List X)) (cut : ℕ → ℕ) → IsCut cmp (xs ∷ xss) cut → IsCut cmp xss (λ i. cut (suc i))
  cut_tail xs xss cut h i j a b x y differ p q less more =
      ap (λ later. comes_first cmp later x y) (sym (lt_suc j i)) ∙ h (suc i) (suc j) a b x y (λ e. differ (omega (arith, e))) p q less more

  -- the merge of all is that of what a cut takes, and then that of what it leaves
  pub split_merge : (xss : List (List X)) (cut : ℕ → ℕ) → IsCut cmp xss cut → merged cmp xss ≡ merged cmp (fronts xss cut) ++ merged cmp (rests xss cut)
  split_merge [] cut h = refl
  split_merge (xs ∷ xss) cut h =
      let c = cut zero in
      let next = λ (i : ℕ). cut (suc i) in
      ap (λ ys. merge cmp ys (merged cmp xss)) (sym (take-append-drop c xs)) ∙ ap (merge cmp (take c xs ++ drop c xs)) (split_merge xss next (cut_tail xs xss cut h))
      ∙ split_two (take c xs) (drop c xs) (merged cmp (fronts xss next)) (merged cmp (rests xss next))
      (all_rests (NoneBelow (take c xs)) xss next (λ j b y at more. all_taken (λ x. is_lt (cmp y x) ≡ false) xs c
      (λ a x here less. not_true (is_lt (cmp y x)) (ap (λ later. comes_first cmp later x y) (sym (le-ltb (suc j) zero (omega arith))) ∙ h zero (suc j) a b x y (λ e. omega (arith, e)) here at less more))))
      (all_fronts (IsBelow (drop c xs)) xss next (λ j b y at less. all_left (λ x. is_lt (cmp y x) ≡ true) xs c
      (λ a x here more. ap (λ later. comes_first cmp later y x) (sym (lt-ltb zero (suc j) (omega arith))) ∙ h (suc j) zero b a y x (λ e. omega (arith, e)) at here less more)))

  -- How many items a merge has.
  pub length-merge : (xs ys : List X) → length (merge cmp xs ys) ≡ length xs + length ys
  length-merge [] ys = omega arith
  length-merge (x ∷ xs) [] = omega arith
  length-merge (x ∷ xs) (y ∷ ys) = elim (cases_Bool (is_lt (cmp y x))) [
    | inl second ↦ (let e = ap length (merge-second cmp x y xs ys second) in let n = length-merge (x ∷ xs) ys in omega (arith, e, n))
    | inr first ↦ (let e = ap length (merge-first cmp x y xs ys first) in let n = length-merge xs (y ∷ ys) in omega (arith, e, n))
  ]

  pub length_fronts : (xss : List (List X)) (cut : ℕ → ℕ) → ((i : ℕ) → cut i ≤ length (list_at xss i)) → length (merged cmp (fronts xss cut)) ≡ total xss cut
  length_fronts [] cut h = refl
  length_fronts (xs ∷ xss) cut h =
      let next = λ (i : ℕ). cut (suc i) in
      let n = length-merge (take (cut zero) xs) (merged cmp (fronts xss next)) in
      let m = length_fronts xss next (λ i. h (suc i)) in
      let k = length-take-le (cut zero) xs (h zero) in
      omega (arith, n, m, k)

  -- Cuts that differ by one item.
  -- what a cut leaves of what it takes
  drop_taken : (n : ℕ) (xs : List X) → drop n (take n xs) ≡ []
  drop_taken zero [] = refl
  drop_taken zero (x ∷ xs) = refl
  drop_taken (suc n) [] = refl
  drop_taken (suc n) (x ∷ xs) = drop_taken n xs

  drop_one : (n : ℕ) (xs : List X) (x : X) → slice_get xs n ≡ Some x → drop n (take (suc n) xs) ≡ x ∷ []
  drop_one zero [] x at = absurd (cc)
  drop_one zero (y ∷ xs) x at = (let e : y ≡ x = some_is y x at in ap (λ z. z ∷ []) e)
  drop_one (suc n) [] x at = absurd (cc)
  drop_one (suc n) (y ∷ xs) x at = drop_one n xs x at

  none_between : (xss : List (List X)) (f g : ℕ → ℕ) → ((i : ℕ) → g i ≡ f i) → merged cmp (rests (fronts xss g) f) ≡ []
  none_between [] f g h = refl
  none_between (xs ∷ xss) f g h =
      ap (λ ys. merge cmp ys (merged cmp (rests (fronts xss (λ i. g (suc i))) (λ i. f (suc i))))) (ap (λ n. drop (f zero) (take n xs)) (h zero) ∙ drop_taken (f zero) xs)
      ∙ none_between xss (λ i. f (suc i)) (λ i. g (suc i)) (λ i. h (suc i))

  next_tail : (p : ℕ) (f g : ℕ → ℕ) → IsNext (suc p) f g → IsNext p (λ i. f (suc i)) (λ i. g (suc i))
  next_tail p f g n = record { here = n.here; others = λ i differ. n.others (suc i) (λ e. differ (omega (arith, e))) }

  one_between : (xss : List (List X)) (p : ℕ) (f g : ℕ → ℕ) (x : X) → IsNext p f g → IsItem xss p (f p) x → merged cmp (rests (fronts xss g) f) ≡ x ∷ []
  one_between [] p f g x n at = absurd (cc)
  one_between (xs ∷ xss) zero f g x n at =
      ap (merge cmp (drop (f zero) (take (g zero) xs))) (none_between xss (λ i. f (suc i)) (λ i. g (suc i)) (λ i. n.others (suc i) (λ e. omega (arith, e))))
      ∙ merge-nil cmp (drop (f zero) (take (g zero) xs)) ∙ ap (λ m. drop (f zero) (take m xs)) n.here ∙ drop_one (f zero) xs x at
  one_between (xs ∷ xss) (suc p) f g x n at =
      ap (λ ys. merge cmp ys (merged cmp (rests (fronts xss (λ i. g (suc i))) (λ i. f (suc i))))) (ap (λ m. drop (f zero) (take m xs)) (n.others zero (λ e. omega (arith, e))) ∙ drop_taken (f zero) xs)
      ∙ one_between xss p (λ i. f (suc i)) (λ i. g (suc i)) x (next_tail p f g n) at

  -- an item of what a cut takes
  taken_item : (n : ℕ) (xs : List X) (a : ℕ) (x : X) → slice_get (take n xs) a ≡ Some x → slice_get xs a ≡ Some x
  taken_item zero [] a x at = at
  taken_item (suc n) [] a x at = at
  taken_item zero (y ∷ xs) a x at = absurd (cc)
  taken_item (suc n) (y ∷ xs) zero x at = at
  taken_item (suc n) (y ∷ xs) (suc a) x at = taken_item n xs a x at

  fronts_item : (xss : List (List X)) (g : ℕ → ℕ) (i a : ℕ) (x : X) → IsItem (fronts xss g) i a x → IsItem xss i a x
  fronts_item [] g i a x at = at
  fronts_item (xs ∷ xss) g zero a x at = taken_item (g zero) xs a x at
  fronts_item (xs ∷ xss) g (suc i) a x at = fronts_item xss (λ i. g (suc i)) i a x at

  pub fronts_cut : (xss : List (List X)) (f g : ℕ → ℕ) → IsCut cmp xss f → IsCut cmp (fronts xss g) f
  fronts_cut xss f g h i j a b x y differ p q less more = h i j a b x y differ (fronts_item xss g i a x p) (fronts_item xss g j b y q) less more

  take_take : (m n : ℕ) (xs : List X) → m ≤ n → take m (take n xs) ≡ take m xs
  take_take zero zero xs h = refl
  take_take zero (suc n) [] h = refl
  take_take zero (suc n) (x ∷ xs) h = refl
  take_take (suc m) zero xs h = absurd (omega arith)
  take_take (suc m) (suc n) [] h = refl
  take_take (suc m) (suc n) (x ∷ xs) h = ap (λ ys. x ∷ ys) (take_take m n xs (omega (arith, h)))

  fronts_fronts : (xss : List (List X)) (f g : ℕ → ℕ) → ((i : ℕ) → f i ≤ g i) → fronts (fronts xss g) f ≡ fronts xss f
  fronts_fronts [] f g h = refl
  fronts_fronts (xs ∷ xss) f g h =
      ap (λ ys. ys ∷ fronts (fronts xss (λ i. g (suc i))) (λ i. f (suc i))) (take_take (f zero) (g zero) xs (h zero))
      ∙ ap (λ yss. take (f zero) xs ∷ yss) (fronts_fronts xss (λ i. f (suc i)) (λ i. g (suc i)) (λ i. h (suc i)))

  slice_get-middle : (xs ys : List X) (x : X) (n : ℕ) → length xs ≡ n → slice_get ((xs ++ x ∷ []) ++ ys) n ≡ Some x
  slice_get-middle [] ys x zero e = refl
  slice_get-middle [] ys x (suc n) e = absurd (omega arith)
  slice_get-middle (z ∷ xs) ys x zero e = absurd (omega arith)
  slice_get-middle (z ∷ xs) ys x (suc n) e = slice_get-middle xs ys x n (omega (arith, e))

  next_le : (p : ℕ) (f g : ℕ → ℕ) → IsNext p f g → (i : ℕ) → f i ≤ g i
  next_le p f g n i = elim (cases_eq i p) [
    | inl same ↦ (let e = n.here in let d = ap f same in let k = ap g same in omega (arith, e, d, k))
    | inr differ ↦ (let e = n.others i differ in omega (arith, e))
  ]

  -- the item between two cuts is that of the merge at the place of the first
  pub item_between : (xss : List (List X)) (p : ℕ) (f g : ℕ → ℕ) (x : X) → IsCut cmp xss f → IsCut cmp xss g → IsNext p f g → ((i : ℕ) → f i ≤ length (list_at xss i)) → IsItem xss p (f p) x
      → slice_get (merged cmp xss) (total xss f) ≡ Some x
  item_between xss p f g x before after n inside at =
      let le = next_le p f g n in
      let first : merged cmp (fronts xss g) ≡ merged cmp (fronts xss f) ++ x ∷ [] =
      split_merge (fronts xss g) f (fronts_cut xss f g before) ∙ ap (λ yss. merged cmp yss ++ merged cmp (rests (fronts xss g) f)) (fronts_fronts xss f g le)
      ∙ ap (λ ys. merged cmp (fronts xss f) ++ ys) (one_between xss p f g x n at) in
      ap (λ ys. slice_get ys (total xss f)) (split_merge xss g after ∙ ap (λ ys. ys ++ merged cmp (rests xss g)) first)
      ∙ slice_get-middle (merged cmp (fronts xss f)) (merged cmp (rests xss g)) x (total xss f) (length_fronts xss f inside)
