-- Laws of sources that are moved.
use Rattle.std.proofs.Common.{◌≡◌, ◌≢◌, ℕ, zero, suc, ◌+◌, ◌-◌, ◌<◌, ◌≤◌, Bool, true, false, not, cond, nat_lt, List, [], ◌∷◌, length, map, get_or, Option, Some, None, slice_get, refl, sym, ap, subst, ◌∙◌, inl, inr, ◌⊎◌, arith}
use Rattle.std.proofs.lemmas.Bool.{cases_lt, lt-ltb, le-ltb, ltb-false, ltb-true, cases_eq}
use Rattle.std.proofs.lemmas.Cmp.{nat_list_cmp_total}
use Rattle.std.proofs.lemmas.List.{length-map, get_or-map, map-set, set-get_or}
use Rattle.std.specs.Cmp.Lexicographic.{slice_cmp}
use Rattle.std.proofs.lemmas.Option.{slice_get_within}
use Rattle.std.proofs.lemmas.List.Sums.{sum_by-cons, count_by-le-length}
use Rattle.std.proofs.Math.ListN.{set}
use Rattle.std.specs.Cmp.{IsTotalOrder}
use Rattle.std.specs.List.{AllByRecursion, count_by, sum_by}
use Rattle.std.specs.Ordering.{is_lt, is_le, nat_cmp, ordering_reverse}
use Rattle.std.specs.declared.cmp.Ordering.{Ordering}
use Rattle.std.specs.declared.cmp.Ordering.TheVariants.{Less, Equal, Greater}
use Rattle.sstable_blocks.specs.Prelude.{IsInOrder, Window, whole, first_left, last_left, some_left, next, next_back, Answer, item}
use Rattle.sstable_blocks.specs.BlockLaws.{not_true, not_false, some_is, item_same}
use Rattle.sst_sources.specs.Merge.{merged}
use Rattle.sst_sources.specs.Picks.{list_at}
use Rattle.sst_merge.specs.Cuts.{IsItem, comes_first, IsCut, IsNext, total}
use Rattle.sst_merge.proofs.Merging.CutLaws.{item_between}
use Rattle.sst_merge.proofs.Merging.CutSteps.{cut_forth, cut_back, all_before, none_first, none_last, total_same, total_le, total_lt, total_next, cut_none, cut_all, total_none, total_all, cut_by, count_merged, Separates, lt_ge, ge_lt, ge_ge, weakly, not_itself}
use Rattle.sstable_blocks.specs.BetweenLaws.{item_found}
use Rattle.sst_merge.specs.Movable.{item_before, is_below, is_at_most, IsFrontAmong, IsBackAmong, IsFresh, lists_in, count_at, merged_window, AreMoved, goes_before, goes_after, FirstAmong, LastAmong, IsFrontPick, IsBackPick, TakesFront, TakesBack, seek_to, seek_up_to, changed_until}

module _ {X : Type 0} where
  -- a window at an index
  pub list_of : (ws : List (Window X)) (i : ℕ) (w : Window X) → i < length ws → w ≡ get_or ws i w → list_at (lists_in ws) i ≡ w.list
  list_of [] i w inside is = absurd (omega (arith, inside))
  list_of (v ∷ ws) zero w inside is = ap (λ (u : Window X). u.list) (sym is)
  list_of (v ∷ ws) (suc i) w inside is = list_of ws i w (omega (arith, inside)) is

  pub count_of : (count : Window X → ℕ) (ws : List (Window X)) (i : ℕ) (w : Window X) → i < length ws → w ≡ get_or ws i w → count_at count ws i ≡ count w
  count_of count [] i w inside is = absurd (omega (arith, inside))
  count_of count (v ∷ ws) zero w inside is = ap count (sym is)
  count_of count (v ∷ ws) (suc i) w inside is = count_of count ws i w (omega (arith, inside)) is

  pub total_sum : (count : Window X → ℕ) (ws : List (Window X)) → total (lists_in ws) (count_at count ws) ≡ sum_by count ws
  total_sum count [] = refl
  total_sum count (w ∷ ws) = (let e = total_sum count ws in let d = sum_by-cons count w ws in omega (arith, e, d))

  -- one window is exchanged for another of its list
  pub lists_set : (ws : List (Window X)) (p : ℕ) (w v : Window X) → p < length ws → w ≡ get_or ws p w → v.list ≡ w.list → lists_in (set ws p v) ≡ lists_in ws
  lists_set [] p w v inside is same = absurd (omega (arith, inside))
  lists_set (u ∷ ws) zero w v inside is same = ap (λ xs. xs ∷ lists_in ws) (same ∙ ap (λ (t : Window X). t.list) is)
  lists_set (u ∷ ws) (suc p) w v inside is same = ap (λ xss. u.list ∷ xss) (lists_set ws p w v (omega (arith, inside)) is same)

  count_set : (count : Window X → ℕ) (ws : List (Window X)) (p : ℕ) (v : Window X) → p < length ws → count_at count (set ws p v) p ≡ count v
  count_set count [] p v inside = absurd (omega (arith, inside))
  count_set count (u ∷ ws) zero v inside = refl
  count_set count (u ∷ ws) (suc p) v inside = count_set count ws p v (omega (arith, inside))

  count_other : (count : Window X → ℕ) (ws : List (Window X)) (p i : ℕ) (v : Window X) → i ≢ p → count_at count (set ws p v) i ≡ count_at count ws i
  count_other count [] p i v differ = refl
  count_other count (u ∷ ws) zero zero v differ = absurd (differ refl)
  count_other count (u ∷ ws) zero (suc i) v differ = refl
  count_other count (u ∷ ws) (suc p) zero v differ = refl
  count_other count (u ∷ ws) (suc p) (suc i) v differ = count_other count ws p i v (λ e. differ (omega (arith, e)))

  count_same : (count : Window X → ℕ) (ws : List (Window X)) (p : ℕ) (w v : Window X) → p < length ws → w ≡ get_or ws p w → count v ≡ count w → (i : ℕ) → count_at count (set ws p v) i ≡ count_at count ws i
  count_same count ws p w v inside is same i = elim (cases_eq i p) [
    | inr differ ↦ count_other count ws p i v differ
    | inl e ↦ ap (count_at count (set ws p v)) e ∙ count_set count ws p v inside ∙ same ∙ sym (count_of count ws p w inside is) ∙ ap (count_at count ws) (sym e)
  ]

  -- a cut by counts that are the same
  cut_same : (cmp : X → X → Ordering) (xss yss : List (List X)) (f g : ℕ → ℕ) → yss ≡ xss → ((i : ℕ) → g i ≡ f i) → IsCut cmp xss f → IsCut cmp yss g
  cut_same cmp xss yss f g lists same cut =
      let moved : IsCut cmp xss g = λ i j a b x y differ p q less more. cut i j a b x y differ p q (let e = same i in omega (arith, e, less)) (let e = same j in omega (arith, e, more)) in
      subst (λ zss. IsCut cmp zss g) (sym lists) moved

pair_by : {A B : Type 0} (c : A × B) (a : A) (b : B) → a ≡ c.0 → b ≡ c.1 → (a, b) ≡ c
pair_by {A = A} {B = B} c a b e f =
    let first : A → A × B = λ x. (x, b) in
    let second : B → A × B = λ y. (c.0, y) in
    ap first e ∙ ap second f

-- the item that goes before another
goes_by : {X : Type 0} (cmp : X → X → Ordering) (at c o : Option X) (z : X) → at ≡ c → o ≡ Some z → goes_before cmp c o ≡ true → (x : X) × (at ≡ Some x) × (is_lt (cmp x z) ≡ true)
goes_by cmp at None o z e f t = absurd (cc)
goes_by cmp at (Some x) None z e f t = absurd (cc)
goes_by cmp at (Some x) (Some y) z e f t = (x, e, ap (λ u. is_lt (cmp x u)) (sym (some_is y z f)) ∙ t)

-- or after
follows_by : {X : Type 0} (cmp : X → X → Ordering) (at c o : Option X) (z : X) → at ≡ c → o ≡ Some z → goes_after cmp c o ≡ true → (x : X) × (at ≡ Some x) × (is_lt (cmp x z) ≡ false)
follows_by cmp at None o z e f t = absurd (cc)
follows_by cmp at (Some x) None z e f t = absurd (cc)
follows_by cmp at (Some x) (Some y) z e f t = (x, e, ap (λ u. is_lt (cmp x u)) (sym (some_is y z f)) ∙ not_true (is_lt (cmp x y)) t)

module _ {X : Type 0} (cmp : X → X → Ordering) (order : IsTotalOrder cmp) where
  abbrev lo : Window X → ℕ
  lo w = w.lo

  abbrev hi : Window X → ℕ
  hi w = w.hi

  -- The pick, one window more.
  pub first_one : (xss : List (List X)) (cut : ℕ → ℕ) → FirstAmong cmp xss cut 1 0
  first_one xss cut j y less at = (let e : j ≡ 0 = omega (arith, less) in (y, subst (λ k. IsItem xss k (cut k) y) e at, λ differ. absurd (differ (sym e))))

  pub first_stays : (xss : List (List X)) (cut : ℕ → ℕ) (n b : ℕ) (c o : Option X) → FirstAmong cmp xss cut n b → b < n → slice_get (list_at xss n) (cut n) ≡ c → slice_get (list_at xss b) (cut b) ≡ o → goes_before cmp c o ≡ false → FirstAmong cmp xss cut (n + 1) b
  first_stays xss cut n b c o all inside is_c is_o test j y less at = elim (cases_lt j n) [
    | inl old ↦ all j y old at
    | inr new ↦
        (let e : j ≡ n = omega (arith, new, less) in
        let here : slice_get (list_at xss n) (cut n) ≡ Some y = ap (λ k. slice_get (list_at xss k) (cut k)) (sym e) ∙ at in
        let won = stays c o (sym is_c ∙ here) is_o test in
        (won.0, won.1, λ differ. ap (λ k. comes_first cmp (nat_lt k b) won.0 y) e ∙ ap (λ later. comes_first cmp later won.0 y) (le-ltb n b (omega (arith, inside))) ∙ won.2))
  ]
    where
      stays : (c o : Option X) → c ≡ Some y → slice_get (list_at xss b) (cut b) ≡ o → goes_before cmp c o ≡ false → (x : X) × (IsItem xss b (cut b) x) × (not (is_lt (cmp y x)) ≡ true)
      stays None o e f t = absurd (cc)
      stays (Some z) None e f t = absurd (cc)
      stays (Some z) (Some x) e f t = (let d : z ≡ y = some_is z y e in (x, f, ap not (ap (λ u. is_lt (cmp u x)) (sym d) ∙ t)))

  pub first_moves : (xss : List (List X)) (cut : ℕ → ℕ) (n b : ℕ) (c o : Option X) → FirstAmong cmp xss cut n b → b < n → slice_get (list_at xss n) (cut n) ≡ c → slice_get (list_at xss b) (cut b) ≡ o → goes_before cmp c o ≡ true → FirstAmong cmp xss cut (n + 1) n
  first_moves xss cut n b c o all inside is_c is_o test j y less at = elim (cases_lt j n) [
    | inr new ↦ (let e : j ≡ n = omega (arith, new, less) in (y, subst (λ k. IsItem xss k (cut k) y) e at, λ differ. absurd (differ (sym e))))
    | inl old ↦
        (let won = all j y old at in
        let next = goes_by cmp (slice_get (list_at xss n) (cut n)) c o won.0 is_c (sym is_o ∙ won.1) test in
        (next.0, next.1, λ differ. ap (λ later. comes_first cmp later next.0 y) (lt-ltb j n old) ∙ lt_ge cmp order next.0 won.0 y next.2 (below (cases_eq b j) won.0 won.1 won.2)))
  ]
    where
      below : (b ≡ j) ⊎ (b ≢ j) → (x : X) → IsItem xss b (cut b) x → ((b ≡ j → ⊥) → comes_first cmp (nat_lt j b) x y ≡ true) → is_lt (cmp y x) ≡ false
      below (inr differ) x here goes = weakly cmp order (nat_lt j b) x y (goes differ)
      below (inl e) x here goes =
          (let d : x ≡ y = some_is x y (sym here ∙ ap (λ k. slice_get (list_at xss k) (cut k)) e ∙ at) in ap (λ u. is_lt (cmp y u)) d ∙ not_itself cmp order y)

  -- The pick from the back: an item before a count.
  pub before_is : (xss : List (List X)) (cut : ℕ → ℕ) (i n : ℕ) (x : X) → cut i ≡ n → item_before (list_at xss i) (cut i) ≡ Some x → (a : ℕ) × (cut i ≡ suc a) × (IsItem xss i a x)
  before_is xss cut i zero x e at = absurd (let d = sym (ap (item_before (list_at xss i)) e) ∙ at in cc)
  before_is xss cut i (suc a) x e at = (a, e, sym (ap (item_before (list_at xss i)) e) ∙ at)

  pub is_before : (xss : List (List X)) (cut : ℕ → ℕ) (i a : ℕ) (x : X) → cut i ≡ suc a → IsItem xss i a x → item_before (list_at xss i) (cut i) ≡ Some x
  is_before xss cut i a x e at = ap (item_before (list_at xss i)) e ∙ at

  pub last_one : (xss : List (List X)) (cut : ℕ → ℕ) → LastAmong cmp xss cut 1 0
  last_one xss cut j y less at = (let e : j ≡ 0 = omega (arith, less) in (y, subst (λ k. item_before (list_at xss k) (cut k) ≡ Some y) e at, λ differ. absurd (differ (sym e))))

  pub last_stays : (xss : List (List X)) (cut : ℕ → ℕ) (n b : ℕ) (c o : Option X) → LastAmong cmp xss cut n b → b < n → item_before (list_at xss n) (cut n) ≡ c → item_before (list_at xss b) (cut b) ≡ o → goes_after cmp c o ≡ false → LastAmong cmp xss cut (n + 1) b
  last_stays xss cut n b c o all inside is_c is_o test j y less at = elim (cases_lt j n) [
    | inl old ↦ all j y old at
    | inr new ↦
        (let e : j ≡ n = omega (arith, new, less) in
        let here : item_before (list_at xss n) (cut n) ≡ Some y = ap (λ k. item_before (list_at xss k) (cut k)) (sym e) ∙ at in
        let won = stays c o (sym is_c ∙ here) is_o test in
        (won.0, won.1, λ differ. ap (λ k. comes_first cmp (nat_lt b k) y won.0) e ∙ ap (λ later. comes_first cmp later y won.0) (lt-ltb b n inside) ∙ won.2))
  ]
    where
      stays : (c o : Option X) → c ≡ Some y → item_before (list_at xss b) (cut b) ≡ o → goes_after cmp c o ≡ false → (x : X) × (item_before (list_at xss b) (cut b) ≡ Some x) × (is_lt (cmp y x) ≡ true)
      stays None o e f t = absurd (cc)
      stays (Some z) None e f t = absurd (cc)
      stays (Some z) (Some x) e f t = (let d : z ≡ y = some_is z y e in (x, f, ap (λ u. is_lt (cmp u x)) (sym d) ∙ not_false (is_lt (cmp z x)) t))

  pub last_moves : (xss : List (List X)) (cut : ℕ → ℕ) (n b : ℕ) (c o : Option X) → LastAmong cmp xss cut n b → b < n → item_before (list_at xss n) (cut n) ≡ c → item_before (list_at xss b) (cut b) ≡ o → goes_after cmp c o ≡ true → LastAmong cmp xss cut (n + 1) n
  last_moves xss cut n b c o all inside is_c is_o test j y less at = elim (cases_lt j n) [
    | inr new ↦ (let e : j ≡ n = omega (arith, new, less) in (y, subst (λ k. item_before (list_at xss k) (cut k) ≡ Some y) e at, λ differ. absurd (differ (sym e))))
    | inl old ↦
        (let won = all j y old at in
        let next = follows_by cmp (item_before (list_at xss n) (cut n)) c o won.0 is_c (sym is_o ∙ won.1) test in
        (next.0, next.1, λ differ. ap (λ later. comes_first cmp later y next.0) (le-ltb n j (omega (arith, old))) ∙ ap not (ge_ge cmp order y won.0 next.0 (below (cases_eq b j) won.0 won.1 won.2) next.2)))
  ]
    where
      below : (b ≡ j) ⊎ (b ≢ j) → (x : X) → item_before (list_at xss b) (cut b) ≡ Some x → ((b ≡ j → ⊥) → comes_first cmp (nat_lt b j) y x ≡ true) → is_lt (cmp x y) ≡ false
      below (inr differ) x here goes = weakly cmp order (nat_lt b j) y x (goes differ)
      below (inl e) x here goes =
          (let d : x ≡ y = some_is x y (sym here ∙ ap (λ k. item_before (list_at xss k) (cut k)) e ∙ at) in ap (λ u. is_lt (cmp u y)) d ∙ not_itself cmp order y)

  -- no item is in a list that is not there
  none_past : (xss : List (List X)) (j : ℕ) → length xss ≤ j → list_at xss j ≡ []
  none_past [] j more = refl
  none_past (xs ∷ xss) zero more = absurd (omega (arith, more))
  none_past (xs ∷ xss) (suc j) more = none_past xss j (omega (arith, more))

  no_item : (xss : List (List X)) (j a : ℕ) (y : X) → length xss ≤ j → IsItem xss j a y → ⊥
  no_item xss j a y more at = (let n = slice_get_within (list_at xss j) a y at in let e = ap length (none_past xss j more) in omega (arith, n, e))

  lists_length : (ws : List (Window X)) → length (lists_in ws) ≡ length ws
  lists_length ws = length-map ws (λ (w : Window X). w.list)

  pub front_pick : (ws : List (Window X)) (n place : ℕ) → place < length ws → length ws ≤ n → FirstAmong cmp (lists_in ws) (count_at lo ws) n place → IsFrontPick cmp ws place
  front_pick ws n place inside whole all = record {
    inside = inside;
    first = record {
      before = λ j y at. elim (cases_lt j n) [
        | inl less ↦ all j y less at
        | inr more ↦ absurd (no_item (lists_in ws) j (count_at lo ws j) y (let l = lists_length ws in omega (arith, l, more, whole)) at)
      ];
    };
  }

  pub back_pick : (ws : List (Window X)) (n place : ℕ) → place < length ws → length ws ≤ n → LastAmong cmp (lists_in ws) (count_at hi ws) n place → IsBackPick cmp ws place
  back_pick ws n place inside whole all = record {
    inside = inside;
    last = record {
      after = λ j b y e at. elim (cases_lt j n) [
        | inl less ↦
            (let won = all j y less (is_before (lists_in ws) (count_at hi ws) j b y e at) in
            let there = before_is (lists_in ws) (count_at hi ws) place (count_at hi ws place) won.0 refl won.1 in
            (there.0, won.0, there.1, there.2, won.2))
        | inr more ↦ absurd (no_item (lists_in ws) j b y (let l = lists_length ws in omega (arith, l, more, whole)) at)
      ];
    };
  }

  -- A step from the front.
  abbrev all_lo : List (Window X) → ℕ
  all_lo ws = total (lists_in ws) (count_at lo ws)

  abbrev all_hi : List (Window X) → ℕ
  all_hi ws = total (lists_in ws) (count_at hi ws)

  next_of : (count : Window X → ℕ) (ws : List (Window X)) (p : ℕ) (w v : Window X) → p < length ws → w ≡ get_or ws p w → count v ≡ suc (count w) → IsNext p (count_at count ws) (count_at count (set ws p v))
  next_of count ws p w v inside is more = record {
    here = count_set count ws p v inside ∙ more ∙ ap suc (sym (count_of count ws p w inside is));
    others = λ i differ. count_other count ws p i v differ;
  }

  before_of : (count : Window X → ℕ) (ws : List (Window X)) (p : ℕ) (w v : Window X) → p < length ws → w ≡ get_or ws p w → suc (count v) ≡ count w → IsNext p (count_at count (set ws p v)) (count_at count ws)
  before_of count ws p w v inside is more = record {
    here = count_of count ws p w inside is ∙ sym more ∙ ap suc (sym (count_set count ws p v inside));
    others = λ i differ. sym (count_other count ws p i v differ);
  }

  -- the windows after one of them was moved
  pub moved_front : (ws : List (Window X)) (p : ℕ) (w v : Window X) (x : X) → AreMoved cmp ws → IsFrontPick cmp ws p → w ≡ get_or ws p w → slice_get w.list w.lo ≡ Some x → v.list ≡ w.list → v.lo ≡ suc w.lo → v.hi ≡ w.hi → AreMoved cmp (set ws p v)
  moved_front ws p w v x moved pick is at same_list more same_hi =
      let lists = lists_set ws p w v pick.inside is same_list in
      let n = next_of lo ws p w v pick.inside is more in
      let kept = count_same hi ws p w v pick.inside is same_hi in
      let here : IsItem (lists_in ws) p (count_at lo ws p) x = ap (slice_get (list_at (lists_in ws) p)) (count_of lo ws p w pick.inside is) ∙ ap (λ xs. slice_get xs w.lo) (list_of ws p w pick.inside is) ∙ at in
      record {
        ordered = λ i. subst (λ yss. IsInOrder cmp (list_at yss i)) (sym lists) (moved.ordered i);
        lo_inside = λ i. subst (λ yss. count_at lo (set ws p v) i ≤ length (list_at yss i)) (sym lists) (elim (cases_eq i p) [
          | inr differ ↦ (let e = n.others i differ in let h = moved.lo_inside i in omega (arith, e, h))
          | inl same ↦
              (let e = n.here in
              let f = ap (count_at lo (set ws p v)) same in
              let l = ap (λ k. length (list_at (lists_in ws) k)) same in
              let h = slice_get_within (list_at (lists_in ws) p) (count_at lo ws p) x here in
              omega (arith, e, f, l, h))
        ]);
        hi_inside = λ i. subst (λ yss. count_at hi (set ws p v) i ≤ length (list_at yss i)) (sym lists) (let e = kept i in let h = moved.hi_inside i in omega (arith, e, h));
        front = subst (λ yss. IsCut cmp yss (count_at lo (set ws p v))) (sym lists) (cut_forth cmp order (lists_in ws) moved.ordered p (count_at lo ws) (count_at lo (set ws p v)) x moved.front pick.first here n);
        back = cut_same cmp (lists_in ws) (lists_in (set ws p v)) (count_at hi ws) (count_at hi (set ws p v)) lists kept moved.back;
      }

  pub moved_back : (ws : List (Window X)) (p : ℕ) (w v : Window X) (x : X) → AreMoved cmp ws → IsBackPick cmp ws p → w ≡ get_or ws p w → slice_get w.list v.hi ≡ Some x → v.list ≡ w.list → v.lo ≡ w.lo → suc v.hi ≡ w.hi → AreMoved cmp (set ws p v)
  moved_back ws p w v x moved pick is at same_list same_lo more =
      let lists = lists_set ws p w v pick.inside is same_list in
      let n = before_of hi ws p w v pick.inside is more in
      let kept = count_same lo ws p w v pick.inside is same_lo in
      let here : IsItem (lists_in ws) p (count_at hi (set ws p v) p) x = ap (slice_get (list_at (lists_in ws) p)) (count_set hi ws p v pick.inside) ∙ ap (λ xs. slice_get xs v.hi) (list_of ws p w pick.inside is) ∙ at in
      record {
        ordered = λ i. subst (λ yss. IsInOrder cmp (list_at yss i)) (sym lists) (moved.ordered i);
        lo_inside = λ i. subst (λ yss. count_at lo (set ws p v) i ≤ length (list_at yss i)) (sym lists) (let e = kept i in let h = moved.lo_inside i in omega (arith, e, h));
        hi_inside = λ i. subst (λ yss. count_at hi (set ws p v) i ≤ length (list_at yss i)) (sym lists) (elim (cases_eq i p) [
          | inr differ ↦ (let e = n.others i differ in let h = moved.hi_inside i in omega (arith, e, h))
          | inl same ↦
              (let e = n.here in
              let f = ap (count_at hi (set ws p v)) same in
              let g = ap (count_at hi ws) same in
              let h = moved.hi_inside i in
              omega (arith, e, f, g, h))
        ]);
        front = cut_same cmp (lists_in ws) (lists_in (set ws p v)) (count_at lo ws) (count_at lo (set ws p v)) lists kept moved.front;
        back = subst (λ yss. IsCut cmp yss (count_at hi (set ws p v))) (sym lists) (cut_back cmp order (lists_in ws) moved.ordered p (count_at hi ws) (count_at hi (set ws p v)) x moved.back pick.last here n moved.hi_inside);
      }

  -- What the steps of a merge are.
  module _ (ws : List (Window X)) (moved : AreMoved cmp ws) where
    sums : (all_lo ws ≡ (merged_window cmp ws).lo) × (all_hi ws ≡ (merged_window cmp ws).hi)
    unfolding merged_window
    sums = (total_sum lo ws, total_sum hi ws)

    list_is : (merged_window cmp ws).list ≡ merged cmp (lists_in ws)
    unfolding merged_window
    list_is = refl

    -- an item is left, if one is left of the window that gives its item first, or of the one that gives it last
    pub some_by : (p : ℕ) (w : Window X) → p < length ws → w ≡ get_or ws p w → w.lo < w.hi → (merged_window cmp ws).lo < (merged_window cmp ws).hi
    some_by p w inside is less =
        let a = count_of lo ws p w inside is in
        let b = count_of hi ws p w inside is in
        let h : count_at lo ws p < count_at hi ws p = omega (arith, a, b, less) in
        let all = all_before cmp order (lists_in ws) moved.ordered (count_at lo ws) (count_at hi ws) p moved.front moved.back moved.lo_inside moved.hi_inside h in
        let t = total_lt (lists_in ws) (count_at lo ws) (count_at hi ws) p (let l = lists_length ws in omega (arith, l, inside)) all h in
        let s = sums in
        omega (arith, t, s.0, s.1)

    none_by : ((j : ℕ) → count_at hi ws j ≤ count_at lo ws j) → (merged_window cmp ws).hi ≤ (merged_window cmp ws).lo
    none_by all = let t = total_le (lists_in ws) (count_at hi ws) (count_at lo ws) all in let s = sums in omega (arith, t, s.0, s.1)

    pub none_front : (p : ℕ) (w : Window X) → IsFrontPick cmp ws p → w ≡ get_or ws p w → w.hi ≤ w.lo → (merged_window cmp ws).hi ≤ (merged_window cmp ws).lo
    none_front p w pick is none =
        let a = count_of lo ws p w pick.inside is in
        let b = count_of hi ws p w pick.inside is in
        none_by (none_first cmp order (lists_in ws) moved.ordered (count_at lo ws) (count_at hi ws) p moved.back pick.first moved.hi_inside (omega (arith, a, b, none)))

    pub none_back : (p : ℕ) (w : Window X) → IsBackPick cmp ws p → w ≡ get_or ws p w → w.hi ≤ w.lo → (merged_window cmp ws).hi ≤ (merged_window cmp ws).lo
    none_back p w pick is none =
        let a = count_of lo ws p w pick.inside is in
        let b = count_of hi ws p w pick.inside is in
        none_by (none_last cmp order (lists_in ws) moved.ordered (count_at lo ws) (count_at hi ws) p moved.front pick.last moved.hi_inside (omega (arith, a, b, none)))

    -- the first item left, and the last one
    pub front_item : (p : ℕ) (w v : Window X) (x : X) → IsFrontPick cmp ws p → w ≡ get_or ws p w → slice_get w.list w.lo ≡ Some x → v.list ≡ w.list → v.lo ≡ suc w.lo → v.hi ≡ w.hi → slice_get (merged_window cmp ws).list (merged_window cmp ws).lo ≡ Some x
    front_item p w v x pick is at same_list more same_hi =
        let later = moved_front ws p w v x moved pick is at same_list more same_hi in
        let lists = lists_set ws p w v pick.inside is same_list in
        let n = next_of lo ws p w v pick.inside is more in
        let here : IsItem (lists_in ws) p (count_at lo ws p) x = ap (slice_get (list_at (lists_in ws) p)) (count_of lo ws p w pick.inside is) ∙ ap (λ xs. slice_get xs w.lo) (list_of ws p w pick.inside is) ∙ at in
        ap (λ xs. slice_get xs (merged_window cmp ws).lo) list_is ∙ ap (slice_get (merged cmp (lists_in ws))) (sym sums.0)
        ∙ item_between cmp (lists_in ws) p (count_at lo ws) (count_at lo (set ws p v)) x moved.front (subst (λ yss. IsCut cmp yss (count_at lo (set ws p v))) lists later.front) n moved.lo_inside here

    pub back_item : (p : ℕ) (w v : Window X) (x : X) → IsBackPick cmp ws p → w ≡ get_or ws p w → slice_get w.list v.hi ≡ Some x → v.list ≡ w.list → v.lo ≡ w.lo → suc v.hi ≡ w.hi → slice_get (merged cmp (lists_in ws)) (total (lists_in ws) (count_at hi (set ws p v))) ≡ Some x
    back_item p w v x pick is at same_list same_lo more =
        let later = moved_back ws p w v x moved pick is at same_list same_lo more in
        let lists = lists_set ws p w v pick.inside is same_list in
        let n = before_of hi ws p w v pick.inside is more in
        let here : IsItem (lists_in ws) p (count_at hi (set ws p v) p) x = ap (slice_get (list_at (lists_in ws) p)) (count_set hi ws p v pick.inside) ∙ ap (λ xs. slice_get xs v.hi) (list_of ws p w pick.inside is) ∙ at in
        item_between cmp (lists_in ws) p (count_at hi (set ws p v)) (count_at hi ws) x (subst (λ yss. IsCut cmp yss (count_at hi (set ws p v))) lists later.back) moved.back n
        (λ i. subst (λ yss. count_at hi (set ws p v) i ≤ length (list_at yss i)) lists (later.hi_inside i)) here

  window_by : (a b : Window X) → a.list ≡ b.list → a.lo ≡ b.lo → a.hi ≡ b.hi → a ≡ b
  window_by a b p q r =
      let list_to : List X → Window X = λ xs. record { list = xs; lo = a.lo; hi = a.hi } in
      let lo_to : ℕ → Window X = λ n. record { list = b.list; lo = n; hi = a.hi } in
      let hi_to : ℕ → Window X = λ n. record { list = b.list; lo = b.lo; hi = n } in
      ap list_to p ∙ ap lo_to q ∙ ap hi_to r

  -- a step from the front takes the first item left
  pub steps_front : (ws : List (Window X)) (p : ℕ) (w v : Window X) (x : X) → AreMoved cmp ws → IsFrontPick cmp ws p → w ≡ get_or ws p w → w.lo < w.hi → slice_get w.list w.lo ≡ Some x → v.list ≡ w.list → v.lo ≡ suc w.lo → v.hi ≡ w.hi
      → (merged_window cmp (set ws p v), item (Some x)) ≡ next (merged_window cmp ws)
  steps_front ws p w v x moved pick is less at same_list more same_hi =
      let m = merged_window cmp ws in
      let later = moved_front ws p w v x moved pick is at same_list more same_hi in
      let lists = lists_set ws p w v pick.inside is same_list in
      let n = next_of lo ws p w v pick.inside is more in
      let some : some_left m ≡ true = lt-ltb m.lo m.hi (some_by ws moved p w pick.inside is less) in
      let there = front_item ws moved p w v x pick is at same_list more same_hi in
      let size : p < length (lists_in ws) = (let l = lists_length ws in let h = pick.inside in omega (arith, l, h)) in
      let count = total_next (lists_in ws) (count_at lo ws) (count_at lo (set ws p v)) p size n in
      let before = sums ws moved in
      let after = sums (set ws p v) later in
      let moves_lo : (merged_window cmp (set ws p v)).lo ≡ m.lo + 1 = (let e = ap (λ yss. total yss (count_at lo (set ws p v))) lists in omega (arith, e, count, before.0, after.0)) in
      let kept = total_same (lists_in ws) (count_at hi (set ws p v)) (count_at hi ws) (count_same hi ws p w v pick.inside is same_hi) in
      let keeps_hi : (merged_window cmp (set ws p v)).hi ≡ m.hi = (let e = ap (λ yss. total yss (count_at hi (set ws p v))) lists in omega (arith, e, kept, before.1, after.1)) in
      let keeps_list : (merged_window cmp (set ws p v)).list ≡ m.list = list_is (set ws p v) later ∙ ap (merged cmp) lists ∙ sym (list_is ws moved) in
      let window : merged_window cmp (set ws p v) ≡ record m { lo = m.lo + 1 } = window_by (merged_window cmp (set ws p v)) (record m { lo = m.lo + 1 }) keeps_list moves_lo keeps_hi in
      let first : first_left m ≡ Some x = ap (λ b. cond b (slice_get m.list m.lo) None) some ∙ there in
      let now : (next m).0 ≡ record m { lo = m.lo + 1 } = ap (λ b. cond b (record m { lo = m.lo + 1 }) m) some in
      pair_by (next m) (merged_window cmp (set ws p v)) (item (Some x)) (window ∙ sym now) (sym (ap item first))

  -- or none is left
  pub ends_front : (ws : List (Window X)) (m : Window X) → m.hi ≤ m.lo → (m, item None) ≡ next m
  ends_front ws m none =
      let no : some_left m ≡ false = le-ltb m.lo m.hi none in
      pair_by (next m) m (item None) (sym (ap (λ b. cond b (record m { lo = m.lo + 1 }) m) no)) (sym (ap item (ap (λ b. cond b (slice_get m.list m.lo) None) no)))

  -- A step from the back.
  pub steps_back : (ws : List (Window X)) (p : ℕ) (w v : Window X) (x : X) → AreMoved cmp ws → IsBackPick cmp ws p → w ≡ get_or ws p w → w.lo < w.hi → slice_get w.list v.hi ≡ Some x → v.list ≡ w.list → v.lo ≡ w.lo → suc v.hi ≡ w.hi
      → (merged_window cmp (set ws p v), item (Some x)) ≡ next_back (merged_window cmp ws)
  steps_back ws p w v x moved pick is less at same_list same_lo more =
      let m = merged_window cmp ws in
      let later = moved_back ws p w v x moved pick is at same_list same_lo more in
      let lists = lists_set ws p w v pick.inside is same_list in
      let n = before_of hi ws p w v pick.inside is more in
      let some : some_left m ≡ true = lt-ltb m.lo m.hi (some_by ws moved p w pick.inside is less) in
      let there = back_item ws moved p w v x pick is at same_list same_lo more in
      let size : p < length (lists_in ws) = (let l = lists_length ws in let h = pick.inside in omega (arith, l, h)) in
      let count = total_next (lists_in ws) (count_at hi (set ws p v)) (count_at hi ws) p size n in
      let before = sums ws moved in
      let after = sums (set ws p v) later in
      let place : total (lists_in ws) (count_at hi (set ws p v)) ≡ m.hi - 1 = omega (arith, count, before.1) in
      let moves_hi : (merged_window cmp (set ws p v)).hi ≡ m.hi - 1 = (let e = ap (λ yss. total yss (count_at hi (set ws p v))) lists in omega (arith, e, place, after.1)) in
      let kept = total_same (lists_in ws) (count_at lo (set ws p v)) (count_at lo ws) (count_same lo ws p w v pick.inside is same_lo) in
      let keeps_lo : (merged_window cmp (set ws p v)).lo ≡ m.lo = (let e = ap (λ yss. total yss (count_at lo (set ws p v))) lists in omega (arith, e, kept, before.0, after.0)) in
      let keeps_list : (merged_window cmp (set ws p v)).list ≡ m.list = list_is (set ws p v) later ∙ ap (merged cmp) lists ∙ sym (list_is ws moved) in
      let window : merged_window cmp (set ws p v) ≡ record m { hi = m.hi - 1 } = window_by (merged_window cmp (set ws p v)) (record m { hi = m.hi - 1 }) keeps_list keeps_lo moves_hi in
      let at_place : slice_get m.list (m.hi - 1) ≡ Some x = ap (λ xs. slice_get xs (m.hi - 1)) (list_is ws moved) ∙ ap (slice_get (merged cmp (lists_in ws))) (sym place) ∙ there in
      let last : last_left m ≡ Some x = ap (λ b. cond b (slice_get m.list (m.hi - 1)) None) some ∙ at_place in
      let now : (next_back m).0 ≡ record m { hi = m.hi - 1 } = ap (λ b. cond b (record m { hi = m.hi - 1 }) m) some in
      pair_by (next_back m) (merged_window cmp (set ws p v)) (item (Some x)) (window ∙ sym now) (sym (ap item last))

  pub ends_back : (ws : List (Window X)) (m : Window X) → m.hi ≤ m.lo → (m, item None) ≡ next_back m
  ends_back ws m none =
      let no : some_left m ≡ false = le-ltb m.lo m.hi none in
      pair_by (next_back m) m (item None) (sym (ap (λ b. cond b (record m { hi = m.hi - 1 }) m) no)) (sym (ap item (ap (λ b. cond b (slice_get m.list (m.hi - 1)) None) no)))

  -- Windows that are all moved by a search.
  lists_kept : (f : Window X → Window X) → ((w : Window X) → (f w).list ≡ w.list) → (ws : List (Window X)) → lists_in (map f ws) ≡ lists_in ws
  lists_kept f same [] = refl
  lists_kept f same (w ∷ ws) = ap (λ xs. xs ∷ lists_in (map f ws)) (same w) ∙ ap (λ xss. w.list ∷ xss) (lists_kept f same ws)

  count_kept : (count : Window X → ℕ) (f : Window X → Window X) → ((w : Window X) → count (f w) ≡ count w) → (ws : List (Window X)) (i : ℕ) → count_at count (map f ws) i ≡ count_at count ws i
  count_kept count f same [] i = refl
  count_kept count f same (w ∷ ws) zero = same w
  count_kept count f same (w ∷ ws) (suc i) = count_kept count f same ws i

  count_sought : (count : Window X → ℕ) (f : Window X → Window X) (test : X → Bool) → ((w : Window X) → count (f w) ≡ count_by test w.list) → (ws : List (Window X)) (i : ℕ) → count_at count (map f ws) i ≡ count_by test (list_at (lists_in ws) i)
  count_sought count f test is [] i = refl
  count_sought count f test is (w ∷ ws) zero = is w
  count_sought count f test is (w ∷ ws) (suc i) = count_sought count f test is ws i

  pub sought_front : (test : X → Bool) (ws : List (Window X)) → Separates cmp test → AreMoved cmp ws → AreMoved cmp (map (seek_to test) ws)
  sought_front test ws apart moved =
      let f = seek_to test in
      let lists = lists_kept f (λ w. refl) ws in
      let counts = count_sought lo f test (λ w. refl) ws in
      let kept = count_kept hi f (λ w. refl) ws in
      record {
        ordered = λ i. subst (λ yss. IsInOrder cmp (list_at yss i)) (sym lists) (moved.ordered i);
        lo_inside = λ i. subst (λ yss. count_at lo (map f ws) i ≤ length (list_at yss i)) (sym lists) (let e = counts i in let h = count_by-le-length test (list_at (lists_in ws) i) in omega (arith, e, h));
        hi_inside = λ i. subst (λ yss. count_at hi (map f ws) i ≤ length (list_at yss i)) (sym lists) (let e = kept i in let h = moved.hi_inside i in omega (arith, e, h));
        front = cut_same cmp (lists_in ws) (lists_in (map f ws)) (λ i. count_by test (list_at (lists_in ws) i)) (count_at lo (map f ws)) lists counts (cut_by cmp order test apart (lists_in ws) moved.ordered);
        back = cut_same cmp (lists_in ws) (lists_in (map f ws)) (count_at hi ws) (count_at hi (map f ws)) lists kept moved.back;
      }

  pub sought_back : (test : X → Bool) (ws : List (Window X)) → Separates cmp test → AreMoved cmp ws → AreMoved cmp (map (seek_up_to test) ws)
  sought_back test ws apart moved =
      let f = seek_up_to test in
      let lists = lists_kept f (λ w. refl) ws in
      let counts = count_sought hi f test (λ w. refl) ws in
      let kept = count_kept lo f (λ w. refl) ws in
      record {
        ordered = λ i. subst (λ yss. IsInOrder cmp (list_at yss i)) (sym lists) (moved.ordered i);
        lo_inside = λ i. subst (λ yss. count_at lo (map f ws) i ≤ length (list_at yss i)) (sym lists) (let e = kept i in let h = moved.lo_inside i in omega (arith, e, h));
        hi_inside = λ i. subst (λ yss. count_at hi (map f ws) i ≤ length (list_at yss i)) (sym lists) (let e = counts i in let h = count_by-le-length test (list_at (lists_in ws) i) in omega (arith, e, h));
        front = cut_same cmp (lists_in ws) (lists_in (map f ws)) (count_at lo ws) (count_at lo (map f ws)) lists kept moved.front;
        back = cut_same cmp (lists_in ws) (lists_in (map f ws)) (λ i. count_by test (list_at (lists_in ws) i)) (count_at hi (map f ws)) lists counts (cut_by cmp order test apart (lists_in ws) moved.ordered);
      }

  pub seeks_front : (test : X → Bool) (ws : List (Window X)) → Separates cmp test → AreMoved cmp ws → merged_window cmp (map (seek_to test) ws) ≡ record (merged_window cmp ws) { lo = count_by test (merged_window cmp ws).list }
  seeks_front test ws apart moved =
      let f = seek_to test in
      let m = merged_window cmp ws in
      let n = merged_window cmp (map f ws) in
      let later = sought_front test ws apart moved in
      let lists = lists_kept f (λ w. refl) ws in
      let before = sums ws moved in
      let after = sums (map f ws) later in
      let same_list : n.list ≡ m.list = list_is (map f ws) later ∙ ap (merged cmp) lists ∙ sym (list_is ws moved) in
      let counts = total_same (lists_in ws) (count_at lo (map f ws)) (λ i. count_by test (list_at (lists_in ws) i)) (count_sought lo f test (λ w. refl) ws) in
      let kept = total_same (lists_in ws) (count_at hi (map f ws)) (count_at hi ws) (count_kept hi f (λ w. refl) ws) in
      let a = ap (λ yss. total yss (count_at lo (map f ws))) lists in
      let b = ap (λ yss. total yss (count_at hi (map f ws))) lists in
      let c = count_merged cmp order test apart (lists_in ws) in
      let d = ap (count_by test) (list_is ws moved) in
      window_by n (record m { lo = count_by test m.list }) same_list (omega (arith, after.0, a, counts, c, d)) (omega (arith, after.1, b, kept, before.1))

  pub seeks_back : (test : X → Bool) (ws : List (Window X)) → Separates cmp test → AreMoved cmp ws → merged_window cmp (map (seek_up_to test) ws) ≡ record (merged_window cmp ws) { hi = count_by test (merged_window cmp ws).list }
  seeks_back test ws apart moved =
      let f = seek_up_to test in
      let m = merged_window cmp ws in
      let n = merged_window cmp (map f ws) in
      let later = sought_back test ws apart moved in
      let lists = lists_kept f (λ w. refl) ws in
      let before = sums ws moved in
      let after = sums (map f ws) later in
      let same_list : n.list ≡ m.list = list_is (map f ws) later ∙ ap (merged cmp) lists ∙ sym (list_is ws moved) in
      let counts = total_same (lists_in ws) (count_at hi (map f ws)) (λ i. count_by test (list_at (lists_in ws) i)) (count_sought hi f test (λ w. refl) ws) in
      let kept = total_same (lists_in ws) (count_at lo (map f ws)) (count_at lo ws) (count_kept lo f (λ w. refl) ws) in
      let a = ap (λ yss. total yss (count_at lo (map f ws))) lists in
      let b = ap (λ yss. total yss (count_at hi (map f ws))) lists in
      let c = count_merged cmp order test apart (lists_in ws) in
      let d = ap (count_by test) (list_is ws moved) in
      window_by n (record m { hi = count_by test m.list }) same_list (omega (arith, after.0, a, kept, before.0)) (omega (arith, after.1, b, counts, c, d))

  -- Fresh windows.
  fresh_ordered : (ws : List (Window X)) → AllByRecursion (IsFresh cmp) ws → (i : ℕ) → IsInOrder cmp (list_at (lists_in ws) i)
  fresh_ordered [] all i = tt
  fresh_ordered (w ∷ ws) all zero = all.0.ordered
  fresh_ordered (w ∷ ws) all (suc i) = fresh_ordered ws all.1 i

  fresh_lo : (ws : List (Window X)) → AllByRecursion (IsFresh cmp) ws → (i : ℕ) → count_at lo ws i ≡ 0
  fresh_lo [] all i = refl
  fresh_lo (w ∷ ws) all zero = ap lo all.0.all
  fresh_lo (w ∷ ws) all (suc i) = fresh_lo ws all.1 i

  fresh_hi : (ws : List (Window X)) → AllByRecursion (IsFresh cmp) ws → (i : ℕ) → count_at hi ws i ≡ length (list_at (lists_in ws) i)
  fresh_hi [] all i = refl
  fresh_hi (w ∷ ws) all zero = ap hi all.0.all
  fresh_hi (w ∷ ws) all (suc i) = fresh_hi ws all.1 i

  pub fresh_moved : (ws : List (Window X)) → AllByRecursion (IsFresh cmp) ws → AreMoved cmp ws
  fresh_moved ws all = record {
    ordered = fresh_ordered ws all;
    lo_inside = λ i. (let e = fresh_lo ws all i in omega (arith, e));
    hi_inside = λ i. (let e = fresh_hi ws all i in omega (arith, e));
    front = cut_same cmp (lists_in ws) (lists_in ws) (λ i. 0) (count_at lo ws) refl (fresh_lo ws all) (cut_none cmp (lists_in ws));
    back = cut_same cmp (lists_in ws) (lists_in ws) (λ i. length (list_at (lists_in ws) i)) (count_at hi ws) refl (fresh_hi ws all) (cut_all cmp (lists_in ws));
  }

  pub fresh_whole : (ws : List (Window X)) → AllByRecursion (IsFresh cmp) ws → merged_window cmp ws ≡ whole (merged cmp (lists_in ws))
  fresh_whole ws all =
      let m = merged_window cmp ws in
      let moved = fresh_moved ws all in
      let s = sums ws moved in
      let a = total_same (lists_in ws) (count_at lo ws) (λ i. 0) (fresh_lo ws all) in
      let b = total_same (lists_in ws) (count_at hi ws) (λ i. length (list_at (lists_in ws) i)) (fresh_hi ws all) in
      let c = total_none cmp (lists_in ws) in
      let d = total_all cmp (lists_in ws) in
      window_by m (whole (merged cmp (lists_in ws))) (list_is ws moved) (omega (arith, s.0, a, c)) (omega (arith, s.1, b, d))

-- Values that are changed one after the other.
module _ {A : Type 0} (f : A → A) where
  pub changed_next : (xs : List A) (k : ℕ) (x y : A) → k < length xs → x ≡ get_or (changed_until f k xs) k x → y ≡ f x → set (changed_until f k xs) k y ≡ changed_until f (suc k) xs
  changed_next [] k x y inside is now = absurd (omega (arith, inside))
  changed_next (z ∷ xs) zero x y inside is now = ap (λ t. t ∷ xs) (now ∙ ap f is)
  changed_next (z ∷ xs) (suc k) x y inside is now = ap (λ ys. f z ∷ ys) (changed_next xs k x y (omega (arith, inside)) is now)

  pub changed_all : (xs : List A) (k : ℕ) → length xs ≤ k → changed_until f k xs ≡ map f xs
  changed_all [] zero more = refl
  changed_all [] (suc k) more = refl
  changed_all (x ∷ xs) zero more = absurd (omega (arith, more))
  changed_all (x ∷ xs) (suc k) more = ap (λ ys. f x ∷ ys) (changed_all xs k (omega (arith, more)))

  -- the next one is not changed yet
  pub not_changed : (xs : List A) (k : ℕ) (x : A) → get_or (changed_until f k xs) k x ≡ get_or xs k x
  not_changed [] zero x = refl
  not_changed [] (suc k) x = refl
  not_changed (z ∷ xs) zero x = refl
  not_changed (z ∷ xs) (suc k) x = not_changed xs k x

-- the item at the index of a source
pub item_at : {X : Type 0} (ws : List (Window X)) (i : ℕ) (w : Window X) (o : Option X) → i < length ws → w ≡ get_or ws i w → o ≡ slice_get w.list w.lo → slice_get (list_at (lists_in ws) i) (count_at (λ (v : Window X). v.lo) ws i) ≡ o
item_at {X = X} ws i w o inside is at = ap (slice_get (list_at (lists_in ws) i)) (count_of (λ (v : Window X). v.lo) ws i w inside is) ∙ ap (λ xs. slice_get xs w.lo) (list_of ws i w inside is) ∙ sym at

pub item_before_at : {X : Type 0} (ws : List (Window X)) (i : ℕ) (w : Window X) (o : Option X) → i < length ws → w ≡ get_or ws i w → o ≡ item_before w.list w.hi → item_before (list_at (lists_in ws) i) (count_at (λ (v : Window X). v.hi) ws i) ≡ o
item_before_at {X = X} ws i w o inside is at = ap (item_before (list_at (lists_in ws) i)) (count_of (λ (v : Window X). v.hi) ws i w inside is) ∙ ap (λ xs. item_before xs w.hi) (list_of ws i w inside is) ∙ sym at

-- A test of user keys parts the items of an order that orders them by their keys first.
module _ {X : Type 0} (cmp : X → X → Ordering) (key : X → List ℕ) (by_key : (x y : X) → is_lt (slice_cmp nat_cmp (key x) (key y)) ≡ true → is_lt (cmp x y) ≡ true) (needle : List ℕ) where
  pub below_apart : Separates cmp (is_below key needle)
  below_apart x y passed failed = by_key x y (lt_ge (slice_cmp nat_cmp) nat_list_cmp_total (key x) needle (key y) passed failed)

  above_is : (a : List ℕ) (o : Ordering) → slice_cmp nat_cmp a needle ≡ o → is_le o ≡ false → is_lt (slice_cmp nat_cmp needle a) ≡ true
  above_is a Less e h = absurd (cc)
  above_is a Equal e h = absurd (cc)
  above_is a Greater e h = ap is_lt (nat_list_cmp_total.antisymm needle a ∙ ap ordering_reverse e)

  most_is : (a : List ℕ) (o : Ordering) → slice_cmp nat_cmp a needle ≡ o → is_le o ≡ true → is_lt (slice_cmp nat_cmp needle a) ≡ false
  most_is a Less e h = ap is_lt (nat_list_cmp_total.antisymm needle a ∙ ap ordering_reverse e)
  most_is a Equal e h = ap is_lt (nat_list_cmp_total.antisymm needle a ∙ ap ordering_reverse e)
  most_is a Greater e h = absurd (cc)

  pub most_apart : Separates cmp (is_at_most key needle)
  most_apart x y passed failed =
      by_key x y (ge_lt (slice_cmp nat_cmp) nat_list_cmp_total (key x) needle (key y)
      (most_is (key x) (slice_cmp nat_cmp (key x) needle) refl passed) (above_is (key y) (slice_cmp nat_cmp (key y) needle) refl failed))

-- one source at an index
pub same_source : {S : Type 0} (ss : List S) (i : ℕ) (s t : S) → i < length ss → s ≡ get_or ss i s → t ≡ get_or ss i t → s ≡ t
same_source [] i s t inside p q = absurd (omega (arith, inside))
same_source (u ∷ ss) zero s t inside p q = p ∙ sym q
same_source (u ∷ ss) (suc i) s t inside p q = same_source ss i s t (omega (arith, inside)) p q

-- The same of sources, each of which has a window.
module _ {S X : Type 0} (cmp : X → X → Ordering) (order : IsTotalOrder cmp) (window : S → Window X) where
  -- the source at an index
  source_at : (ss : List S) (i : ℕ) (s : S) → i < length ss → s ≡ get_or ss i s → window s ≡ get_or (map window ss) i (window s)
  source_at ss i s inside is = ap window is ∙ sym (get_or-map window ss i s (window s) inside)

  many : (ss : List S) → length (map window ss) ≡ length ss
  many ss = length-map ss window

  -- the pick, one source more
  pub front_turn : (ss : List S) (i b : ℕ) (s t : S) (c o : Option X) (r : Bool) → i < length ss → IsFrontAmong cmp (map window ss) i b → s ≡ get_or ss i s → t ≡ get_or ss b t → c ≡ slice_get (window s).list (window s).lo → o ≡ slice_get (window t).list (window t).lo → r ≡ goes_before cmp c o
      → IsFrontAmong cmp (map window ss) (i + 1) (cond r i b)
  front_turn ss i b s t c o r inside all here there is_c is_o told = turn r told
    where
      lists : List (List X)
      lists = lists_in (map window ss)

      at_i : slice_get (list_at lists i) (count_at (λ (v : Window X). v.lo) (map window ss) i) ≡ c
      at_i = item_at (map window ss) i (window s) c (let n = many ss in omega (arith, n, inside)) (source_at ss i s inside here) is_c

      at_b : slice_get (list_at lists b) (count_at (λ (v : Window X). v.lo) (map window ss) b) ≡ o
      at_b = item_at (map window ss) b (window t) o (let n = many ss in let h = all.inside in omega (arith, n, inside, h)) (source_at ss b t (let h = all.inside in omega (arith, inside, h)) there) is_o

      turn : (r : Bool) → r ≡ goes_before cmp c o → IsFrontAmong cmp (map window ss) (i + 1) (cond r i b)
      turn true e = record { inside = omega arith; first = first_moves cmp order lists (count_at (λ (v : Window X). v.lo) (map window ss)) i b c o all.first all.inside at_i at_b (sym e) }
      turn false e = record { inside = (let h = all.inside in omega (arith, h)); first = first_stays cmp order lists (count_at (λ (v : Window X). v.lo) (map window ss)) i b c o all.first all.inside at_i at_b (sym e) }

  pub back_turn : (ss : List S) (i b : ℕ) (s t : S) (c o : Option X) (r : Bool) → i < length ss → IsBackAmong cmp (map window ss) i b → s ≡ get_or ss i s → t ≡ get_or ss b t → c ≡ item_before (window s).list (window s).hi → o ≡ item_before (window t).list (window t).hi → r ≡ goes_after cmp c o
      → IsBackAmong cmp (map window ss) (i + 1) (cond r i b)
  back_turn ss i b s t c o r inside all here there is_c is_o told = turn r told
    where
      lists : List (List X)
      lists = lists_in (map window ss)

      at_i : item_before (list_at lists i) (count_at (λ (v : Window X). v.hi) (map window ss) i) ≡ c
      at_i = item_before_at (map window ss) i (window s) c (let n = many ss in omega (arith, n, inside)) (source_at ss i s inside here) is_c

      at_b : item_before (list_at lists b) (count_at (λ (v : Window X). v.hi) (map window ss) b) ≡ o
      at_b = item_before_at (map window ss) b (window t) o (let n = many ss in let h = all.inside in omega (arith, n, inside, h)) (source_at ss b t (let h = all.inside in omega (arith, inside, h)) there) is_o

      turn : (r : Bool) → r ≡ goes_after cmp c o → IsBackAmong cmp (map window ss) (i + 1) (cond r i b)
      turn true e = record { inside = omega arith; last = last_moves cmp order lists (count_at (λ (v : Window X). v.hi) (map window ss)) i b c o all.last all.inside at_i at_b (sym e) }
      turn false e = record { inside = (let h = all.inside in omega (arith, h)); last = last_stays cmp order lists (count_at (λ (v : Window X). v.hi) (map window ss)) i b c o all.last all.inside at_i at_b (sym e) }

  pub front_start : (ss : List S) → IsFrontAmong cmp (map window ss) 1 0
  front_start ss = record { inside = omega arith; first = first_one cmp order (lists_in (map window ss)) (count_at (λ (v : Window X). v.lo) (map window ss)) }

  pub back_start : (ss : List S) → IsBackAmong cmp (map window ss) 1 0
  back_start ss = record { inside = omega arith; last = last_one cmp order (lists_in (map window ss)) (count_at (λ (v : Window X). v.hi) (map window ss)) }

  pub front_done : (ss : List S) (n place : ℕ) → n ≤ length ss → length ss ≤ n → IsFrontAmong cmp (map window ss) n place → IsFrontPick cmp (map window ss) place
  front_done ss n place short long all = (let l = many ss in let h = all.inside in front_pick cmp order (map window ss) n place (omega (arith, l, h, short)) (omega (arith, l, long)) all.first)

  pub back_done : (ss : List S) (n place : ℕ) → n ≤ length ss → length ss ≤ n → IsBackAmong cmp (map window ss) n place → IsBackPick cmp (map window ss) place
  back_done ss n place short long all = (let l = many ss in let h = all.inside in back_pick cmp order (map window ss) n place (omega (arith, l, h, short)) (omega (arith, l, long)) all.last)

  -- What a step leaves.
  module _ (ss : List S) (moved : AreMoved cmp (map window ss)) (p : ℕ) (s : S) (here : s ≡ get_or ss p s) where
    at_pick : p < length (map window ss) → window s ≡ get_or (map window ss) p (window s)
    at_pick inside = source_at ss p s (let n = many ss in omega (arith, n, inside)) here

    pub next_kept : (r : Option X) (t : S) → IsFrontPick cmp (map window ss) p → TakesFront (window s) r (window t) → AreMoved cmp (map window (set ss p t))
    next_kept None t pick step = subst (AreMoved cmp) (sym (map-set window ss p t ∙ ap (set (map window ss) p) (step.1 ∙ at_pick pick.inside) ∙ set-get_or (map window ss) p (window s))) moved
    next_kept (Some x) t pick step =
        subst (AreMoved cmp) (sym (map-set window ss p t))
        (moved_front cmp order (map window ss) p (window s) (window t) x moved pick (at_pick pick.inside) step.0 (ap (λ (v : Window X). v.list) step.1) (let e = ap (λ (v : Window X). v.lo) step.1 in omega (arith, e)) (ap (λ (v : Window X). v.hi) step.1))

    pub next_is : (m : Window X) (r : Option X) (t : S) → merged_window cmp (map window ss) ≡ m → IsFrontPick cmp (map window ss) p → some_left (window s) ≡ true → TakesFront (window s) r (window t) → (merged_window cmp (map window (set ss p t)), item r) ≡ next m
    next_is m None t whole pick some step =
        absurd (let h = ltb-true (window s).lo (window s).hi some in
        let a = count_of (λ (v : Window X). v.hi) (map window ss) p (window s) pick.inside (at_pick pick.inside) in
        let l = ap length (list_of (map window ss) p (window s) pick.inside (at_pick pick.inside)) in
        let long = moved.hi_inside p in
        let there = item_found (window s).list (window s).lo (omega (arith, h, a, l, long)) in
        let e = sym step.0 ∙ there.1 in cc)
    next_is m (Some x) t whole pick some step =
        ap (λ us. (merged_window cmp us, item (Some x))) (map-set window ss p t)
        ∙ steps_front cmp order (map window ss) p (window s) (window t) x moved pick (at_pick pick.inside) (ltb-true (window s).lo (window s).hi some) step.0 (ap (λ (v : Window X). v.list) step.1) (let e = ap (λ (v : Window X). v.lo) step.1 in omega (arith, e)) (ap (λ (v : Window X). v.hi) step.1)
        ∙ ap next whole

    pub next_ends : (m : Window X) → merged_window cmp (map window ss) ≡ m → IsFrontPick cmp (map window ss) p → some_left (window s) ≡ false → (m, item None) ≡ next m
    next_ends m whole pick none =
        ends_front cmp order (map window ss) m (subst (λ (v : Window X). v.hi ≤ v.lo) whole (none_front cmp order (map window ss) moved p (window s) pick (at_pick pick.inside) (ltb-false (window s).lo (window s).hi none)))

    -- and from the back
    back_parts : (n : ℕ) (x : X) → (window s).hi ≡ n → item_before (window s).list (window s).hi ≡ Some x → (slice_get (window s).list ((window s).hi - 1) ≡ Some x) × (1 ≤ (window s).hi)
    back_parts zero x e at = absurd (let d = sym (ap (item_before (window s).list) e) ∙ at in cc)
    back_parts (suc n) x e at =
        let place : (window s).hi - 1 ≡ n = omega (arith, e) in
        (ap (slice_get (window s).list) place ∙ sym (ap (item_before (window s).list) e) ∙ at, omega (arith, e))

    pub back_kept : (r : Option X) (t : S) → IsBackPick cmp (map window ss) p → TakesBack (window s) r (window t) → AreMoved cmp (map window (set ss p t))
    back_kept None t pick step = subst (AreMoved cmp) (sym (map-set window ss p t ∙ ap (set (map window ss) p) (step.1 ∙ at_pick pick.inside) ∙ set-get_or (map window ss) p (window s))) moved
    back_kept (Some x) t pick step =
        let parts = back_parts (window s).hi x refl step.0 in
        let hi_is = ap (λ (v : Window X). v.hi) step.1 in
        subst (AreMoved cmp) (sym (map-set window ss p t))
        (moved_back cmp order (map window ss) p (window s) (window t) x moved pick (at_pick pick.inside) (ap (slice_get (window s).list) hi_is ∙ parts.0) (ap (λ (v : Window X). v.list) step.1) (ap (λ (v : Window X). v.lo) step.1) (omega (arith, hi_is, parts.1)))

    pub back_is : (m : Window X) (r : Option X) (t : S) → merged_window cmp (map window ss) ≡ m → IsBackPick cmp (map window ss) p → some_left (window s) ≡ true → TakesBack (window s) r (window t) → (merged_window cmp (map window (set ss p t)), item r) ≡ next_back m
    back_is m None t whole pick some step =
        absurd (let h = ltb-true (window s).lo (window s).hi some in
        let a = count_of (λ (v : Window X). v.hi) (map window ss) p (window s) pick.inside (at_pick pick.inside) in
        let l = ap length (list_of (map window ss) p (window s) pick.inside (at_pick pick.inside)) in
        let long = moved.hi_inside p in
        let there = item_found (window s).list ((window s).hi - 1) (omega (arith, h, a, l, long)) in
        let e = ap (item_before (window s).list) (let f : (window s).hi ≡ suc ((window s).hi - 1) = omega (arith, h) in f) in
        let d = sym step.0 ∙ e ∙ there.1 in cc)
    back_is m (Some x) t whole pick some step =
        let parts = back_parts (window s).hi x refl step.0 in
        let hi_is = ap (λ (v : Window X). v.hi) step.1 in
        ap (λ us. (merged_window cmp us, item (Some x))) (map-set window ss p t)
        ∙ steps_back cmp order (map window ss) p (window s) (window t) x moved pick (at_pick pick.inside) (ltb-true (window s).lo (window s).hi some) (ap (slice_get (window s).list) hi_is ∙ parts.0) (ap (λ (v : Window X). v.list) step.1) (ap (λ (v : Window X). v.lo) step.1) (omega (arith, hi_is, parts.1))
        ∙ ap next_back whole

    pub back_ends : (m : Window X) → merged_window cmp (map window ss) ≡ m → IsBackPick cmp (map window ss) p → some_left (window s) ≡ false → (m, item None) ≡ next_back m
    back_ends m whole pick none =
        ends_back cmp order (map window ss) m (subst (λ (v : Window X). v.hi ≤ v.lo) whole (none_back cmp order (map window ss) moved p (window s) pick (at_pick pick.inside) (ltb-false (window s).lo (window s).hi none)))

  -- What is shown.
  module _ (ss : List S) (moved : AreMoved cmp (map window ss)) (p : ℕ) (s : S) (here : s ≡ get_or ss p s) (m : Window X) (whole : merged_window cmp (map window ss) ≡ m) where
    pub first_is : (o : Option X) → IsFrontPick cmp (map window ss) p → some_left (window s) ≡ true → o ≡ slice_get (window s).list (window s).lo → o ≡ first_left m
    first_is None pick some at =
        absurd (let h = ltb-true (window s).lo (window s).hi some in
        let a = count_of (λ (v : Window X). v.hi) (map window ss) p (window s) pick.inside (at_pick ss moved p s here pick.inside) in
        let l = ap length (list_of (map window ss) p (window s) pick.inside (at_pick ss moved p s here pick.inside)) in
        let long = moved.hi_inside p in
        let there = item_found (window s).list (window s).lo (omega (arith, h, a, l, long)) in
        let e = at ∙ there.1 in cc)
    first_is (Some x) pick some at =
        let v : Window X = record (window s) { lo = (window s).lo + 1 } in
        let step = steps_front cmp order (map window ss) p (window s) v x moved pick (at_pick ss moved p s here pick.inside) (ltb-true (window s).lo (window s).hi some) (sym at) refl (omega arith) refl in
        item_same (Some x) (first_left m) (ap (λ (r : Window X × Answer X). r.1) (step ∙ ap next whole))

    pub last_is : (o : Option X) → IsBackPick cmp (map window ss) p → some_left (window s) ≡ true → o ≡ item_before (window s).list (window s).hi → o ≡ last_left m
    last_is None pick some at =
        absurd (let h = ltb-true (window s).lo (window s).hi some in
        let a = count_of (λ (v : Window X). v.hi) (map window ss) p (window s) pick.inside (at_pick ss moved p s here pick.inside) in
        let l = ap length (list_of (map window ss) p (window s) pick.inside (at_pick ss moved p s here pick.inside)) in
        let long = moved.hi_inside p in
        let there = item_found (window s).list ((window s).hi - 1) (omega (arith, h, a, l, long)) in
        let e = ap (item_before (window s).list) (let f : (window s).hi ≡ suc ((window s).hi - 1) = omega (arith, h) in f) in
        let d = at ∙ e ∙ there.1 in cc)
    last_is (Some x) pick some at =
        let parts = back_parts ss moved p s here (window s).hi x refl (sym at) in
        let v : Window X = record (window s) { hi = (window s).hi - 1 } in
        let step = steps_back cmp order (map window ss) p (window s) v x moved pick (at_pick ss moved p s here pick.inside) (ltb-true (window s).lo (window s).hi some) parts.0 refl refl (omega (arith, parts.1)) in
        item_same (Some x) (last_left m) (ap (λ (r : Window X × Answer X). r.1) (step ∙ ap next_back whole))

  -- where there is no source
  empty_by : (ss : List S) (m : Window X) → merged_window cmp (map window ss) ≡ m → length ss ≡ 0 → m.hi ≤ m.lo
  unfolding merged_window
  empty_by [] m whole none = subst (λ (v : Window X). v.hi ≤ v.lo) whole (omega arith)
  empty_by (s ∷ ss) m whole none = absurd (omega (arith, none))

  pub next_empty : (ss : List S) (m : Window X) → merged_window cmp (map window ss) ≡ m → length ss ≡ 0 → (m, item None) ≡ next m
  next_empty ss m whole none = ends_front cmp order [] m (empty_by ss m whole none)

  pub back_empty : (ss : List S) (m : Window X) → merged_window cmp (map window ss) ≡ m → length ss ≡ 0 → (m, item None) ≡ next_back m
  back_empty ss m whole none = ends_back cmp order [] m (empty_by ss m whole none)
