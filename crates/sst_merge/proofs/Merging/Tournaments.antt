-- Tournaments: who stands at place 1 goes first of all, and what a step of its source leaves.
use Rattle.std.proofs.Common.{◌≡◌, ◌≢◌, ℕ, zero, suc, ◌+◌, ◌-◌, ◌*◌, ◌/◌, ◌<◌, ◌≤◌, ◌⊎◌, inl, inr, Bool, true, false, not, cond, nat_lt, List, [], ◌∷◌, length, map, get_or, slice_index, Option, Some, None, refl, sym, ap, subst, ◌∙◌, arith}
use Rattle.std.proofs.lemmas.Bool.{cases_Bool, cases_lt, lt-ltb, le-ltb, ltb-false, cases_eq}
use Rattle.std.proofs.lemmas.List.{get_or-map, get_or-set_other, get_or-set_same, length-map, length-set, map-set}
use Rattle.std.proofs.Math.ListN.{set}
use Rattle.std.specs.Cmp.{IsTotalOrder}
use Rattle.std.specs.Ordering.{is_lt, ordering_reverse}
use Rattle.std.specs.declared.cmp.Ordering.{Ordering}
use Rattle.std.specs.declared.cmp.Ordering.TheVariants.{Less, Equal, Greater}
use Rattle.sstable_blocks.specs.BlockLaws.{not_true, not_false, not_lt, is_not_lt}
use Rattle.sst_sources.specs.MergeReads.{ge_trans}
use Rattle.sst_sources.specs.Picks.{IsPick, goes, least, list_at, wins, wins_nil}
use Rattle.sst_sources.specs.Sources.{Left, lists_left}
use Rattle.sst_sources.specs.SourceLaws.{known_at, lists_length}
use Rattle.sst_merge.specs.Tournament.{AreWinners, IsOnWay, IsFirstOf, IsTournament, Leads, halved, known_list}
use Rattle.sst_sources.specs.ListLaws.{lt_suc}

module _ {X : Type 0} (cmp : X → X → Ordering) (order : IsTotalOrder cmp) where
  turned : (x y : X) (o : Ordering) → cmp x y ≡ o → is_lt o ≡ true → not (is_lt (cmp y x)) ≡ true
  turned x y Less e h = ap (λ p. not (is_lt p)) (order.antisymm y x ∙ ap ordering_reverse e)
  turned x y Equal e h = absurd (cc)
  turned x y Greater e h = absurd (cc)

  -- which of two lists goes first is an order of lists
  wins_trans : (xs ys zs : List X) → wins cmp xs ys ≡ true → wins cmp ys zs ≡ true → wins cmp xs zs ≡ true
  wins_trans xs ys [] p q = wins_nil cmp xs
  wins_trans xs [] (z ∷ zs) p q = absurd (cc)
  wins_trans [] (y ∷ ys) (z ∷ zs) p q = absurd (cc)
  wins_trans (x ∷ xs) (y ∷ ys) (z ∷ zs) p q =
      ap not (is_not_lt (cmp z x) (ge_trans cmp order z y x (not_lt (cmp z y) (not_true (is_lt (cmp z y)) q)) (not_lt (cmp y x) (not_true (is_lt (cmp y x)) p))))

  wins_total : (xs ys : List X) → not (wins cmp ys xs) ≡ true → wins cmp xs ys ≡ true
  wins_total xs [] h = wins_nil cmp xs
  wins_total [] (y ∷ ys) h = absurd (cc)
  wins_total (x ∷ xs) (y ∷ ys) h = turned x y (cmp x y) refl (not_false (is_lt (cmp x y)) (not_true (not (is_lt (cmp x y))) h))

  wins_itself : (xs : List X) → wins cmp xs xs ≡ true
  wins_itself xs = elim (cases_Bool (wins cmp xs xs)) [
    | inl won ↦ won
    | inr lost ↦ wins_total xs xs (ap not lost)
  ]

  -- strictly before
  before_trans : (xs ys zs : List X) → wins cmp xs ys ≡ true → not (wins cmp zs ys) ≡ true → not (wins cmp zs xs) ≡ true
  before_trans xs ys zs p q = elim (cases_Bool (wins cmp zs xs)) [
    | inl won ↦ absurd (let e = wins_trans zs xs ys won p in cc)
    | inr lost ↦ ap not lost
  ]

  trans_before : (xs ys zs : List X) → not (wins cmp ys xs) ≡ true → wins cmp ys zs ≡ true → not (wins cmp zs xs) ≡ true
  trans_before xs ys zs p q = elim (cases_Bool (wins cmp zs xs)) [
    | inl won ↦ absurd (let e = wins_trans ys zs xs q won in cc)
    | inr lost ↦ ap not lost
  ]

  goes_before : (later : Bool) (xs zs : List X) → not (wins cmp zs xs) ≡ true → goes cmp later xs zs ≡ true
  goes_before true xs zs h = h
  goes_before false xs zs h = wins_total xs zs h

  goes_by : (a b c : Bool) (xs ys zs : List X) → (a ≡ false → b ≡ false → c ≡ false) → goes cmp a xs ys ≡ true → goes cmp b ys zs ≡ true → goes cmp c xs zs ≡ true
  goes_by false false c xs ys zs e p q = ap (λ d. goes cmp d xs zs) (e refl refl) ∙ wins_trans xs ys zs p q
  goes_by false true c xs ys zs e p q = goes_before c xs zs (before_trans xs ys zs p q)
  goes_by true false c xs ys zs e p q = goes_before c xs zs (trans_before xs ys zs p q)
  goes_by true true c xs ys zs e p q = goes_before c xs zs (before_trans xs ys zs (wins_total xs ys p) q)

  -- at three places
  goes_trans : (i j k : ℕ) (xs ys zs : List X) → goes cmp (nat_lt j i) xs ys ≡ true → goes cmp (nat_lt k j) ys zs ≡ true → goes cmp (nat_lt k i) xs zs ≡ true
  goes_trans i j k xs ys zs p q = goes_by (nat_lt j i) (nat_lt k j) (nat_lt k i) xs ys zs (λ e f. (let a = ltb-false j i e in let b = ltb-false k j f in le-ltb k i (omega (arith, a, b)))) p q

  -- a source goes before itself
  itself : (lefts : List (Left X)) (i : ℕ) → Leads cmp lefts i i
  itself lefts i xs ys p q =
      let same : ys ≡ xs = (let e : ◌≡◌ {A = Option (List X)} (Some ys) (Some xs) = sym q ∙ p in cc) in
      ap (λ later. goes cmp later xs ys) (le-ltb i i (omega arith)) ∙ subst (λ zs. wins cmp xs zs ≡ true) (sym same) (wins_itself xs)

  other_way : (i j : ℕ) (xs ys : List X) (t : Bool) → t ≡ goes cmp (nat_lt j i) xs ys → t ≡ false → i ≢ j → goes cmp (nat_lt i j) ys xs ≡ true
  other_way i j xs ys t e f n = elim (cases_lt i j) [
    | inl less ↦ goes_before (nat_lt i j) ys xs (ap not (ap (λ later. goes cmp later xs ys) (sym (le-ltb j i (omega (arith, less)))) ∙ sym e ∙ f))
    | inr more ↦
        (let less = lt-ltb j i (omega (arith, more, n)) in
        let lost : not (wins cmp ys xs) ≡ false = ap (λ later. goes cmp later xs ys) (sym less) ∙ sym e ∙ f in
        ap (λ later. goes cmp later ys xs) (le-ltb i j more) ∙ not_false (wins cmp ys xs) lost)
  ]

  known_of : (lefts : List (Left X)) (i : ℕ) (l : Left X) (xs : List X) → i < length lefts → l ≡ get_or lefts i l → known_list lefts i ≡ Some xs → l.list ≡ Some xs
  known_of lefts i l xs inside is known =
      let f = λ (s : Left X). s.list in
      ap f is ∙ sym (get_or-map f lefts i l None inside) ∙ known

  -- of two sources the one that is told
  pub better_is : (lefts : List (Left X)) (i j : ℕ) (a b : Left X) (t : Bool) → i < length lefts → j < length lefts → a ≡ get_or lefts i a → b ≡ get_or lefts j b
      → ((xs ys : List X) → a.list ≡ Some xs → b.list ≡ Some ys → t ≡ goes cmp (nat_lt j i) xs ys) → IsFirstOf cmp lefts i j (cond t i j)
  better_is lefts i j a b true p q e f told = record {
    inside = p;
    one = inl refl;
    before_i = itself lefts i;
    before_j = λ xs ys x y. sym (told xs ys (known_of lefts i a xs p e x) (known_of lefts j b ys q f y));
  }
  better_is lefts i j a b false p q e f told = record {
    inside = q;
    one = inr refl;
    before_i = λ ys xs y x. elim (cases_eq i j) [
      | inl same ↦ subst (λ m. goes cmp (nat_lt m j) ys xs ≡ true) (sym same) (itself lefts j ys xs y (ap (known_list lefts) (sym same) ∙ x))
      | inr differ ↦ other_way i j xs ys false (told xs ys (known_of lefts i a xs p e x) (known_of lefts j b ys q f y)) refl differ
    ];
    before_j = itself lefts j;
  }

  -- a list that goes before all others is the least one
  least_by : (xss : List (List X)) (p : ℕ) → p < length xss → ((j : ℕ) → j < length xss → goes cmp (nat_lt j p) (list_at xss p) (list_at xss j) ≡ true) → p ≡ least cmp xss
  least_by [] p inside all = absurd (omega arith)
  least_by (xs ∷ []) zero inside all = sym (ap {B = ℕ} (λ b. cond b 0 1) (wins_nil cmp xs))
  least_by (xs ∷ ys ∷ yss) zero inside all =
      let m = least cmp (ys ∷ yss) in
      let won = ap (λ later. goes cmp later xs (list_at (ys ∷ yss) m)) (sym (le-ltb (suc m) 0 (omega arith))) ∙ all (suc m) (let n = least_inside ys yss in omega (arith, n)) in
      sym (ap {B = ℕ} (λ b. cond b 0 (suc m)) won)
    where
      least_inside : (zs : List X) (zss : List (List X)) → least cmp (zs ∷ zss) < length (zs ∷ zss)
      least_inside zs [] = (let e = ap {B = ℕ} (λ b. cond b 0 1) (wins_nil cmp zs) in omega (arith, e))
      least_inside zs (us ∷ uss) = elim (cases_Bool (wins cmp zs (list_at (us ∷ uss) (least cmp (us ∷ uss))))) [
        | inl won ↦ (let e = ap {B = ℕ} (λ b. cond b 0 (suc (least cmp (us ∷ uss)))) won in omega (arith, e))
        | inr lost ↦ (let e = ap {B = ℕ} (λ b. cond b 0 (suc (least cmp (us ∷ uss)))) lost in let n = least_inside us uss in omega (arith, e, n))
      ]
  least_by (xs ∷ xss) (suc q) inside all =
      let place : q ≡ least cmp xss = least_by xss q (omega arith) (λ j n. ap (λ later. goes cmp later (list_at xss q) (list_at xss j)) (sym (lt_suc j q)) ∙ all (suc j) (omega (arith, n))) in
      let lost : wins cmp xs (list_at xss q) ≡ false = not_true (wins cmp xs (list_at xss q)) (ap (λ later. goes cmp later (list_at xss q) xs) (sym (lt-ltb 0 (suc q) (omega arith))) ∙ all zero (omega arith)) in
      ap suc place ∙ sym (ap {B = ℕ} (λ b. cond b 0 (suc (least cmp xss))) (ap (λ m. wins cmp xs (list_at xss m)) (sym place) ∙ lost))

  -- this source goes before those at the first indexes, where the lists of all are known
  abbrev pub GoesFirst : List (Left X) → ℕ → ℕ → Type 0
  GoesFirst lefts n place = (xss : List (List X)) → lists_left lefts ≡ Some xss → (j : ℕ) → j < n → goes cmp (nat_lt j place) (list_at xss place) (list_at xss j) ≡ true

  known_at_place : (lefts : List (Left X)) (xss : List (List X)) (i : ℕ) → lists_left lefts ≡ Some xss → i < length lefts → known_list lefts i ≡ Some (list_at xss i)
  known_at_place lefts xss i known inside =
      let f = λ (s : Left X). s.list in
      let n : length (map f lefts) ≡ length lefts = length-map lefts f in
      known_at (map f lefts) xss i None known (omega (arith, n, inside))

  pub pick_by : (lefts : List (Left X)) (place : ℕ) → place < length lefts → GoesFirst lefts (length lefts) place → IsPick cmp lefts place
  pick_by lefts place inside first = record {
    inside = inside;
    is = λ xss known. (let n = lists_length lefts xss known in least_by xss place (omega (arith, n, inside)) (λ j m. first xss known j (omega (arith, n, m))));
  }

  -- one source more
  pub first_more : (lefts : List (Left X)) (n i place : ℕ) → place < length lefts → i < length lefts → n < length lefts → GoesFirst lefts n i → IsFirstOf cmp lefts i n place → GoesFirst lefts (n + 1) place
  first_more lefts n i place p q r first won xss known j inside =
      let here = known_at_place lefts xss place known p in
      let mine = won.before_i (list_at xss place) (list_at xss i) here (known_at_place lefts xss i known q) in
      elim (cases_lt j n) [
        | inl less ↦ goes_trans place i j (list_at xss place) (list_at xss i) (list_at xss j) mine (first xss known j less)
        | inr more ↦
            (let same : n ≡ j = omega (arith, more, inside) in
            let other = won.before_j (list_at xss place) (list_at xss n) here (known_at_place lefts xss n known r) in
            subst (λ m. goes cmp (nat_lt m place) (list_at xss place) (list_at xss m) ≡ true) same other)
      ]

  -- the first source alone
  pub first_alone : (lefts : List (Left X)) → 0 < length lefts → GoesFirst lefts 1 0
  first_alone lefts some xss known j inside =
      let e = known_at_place lefts xss 0 known some in
      let z : 0 ≡ j = omega (arith, inside) in
      subst (λ m. goes cmp (nat_lt m 0) (list_at xss 0) (list_at xss m) ≡ true) z (itself lefts 0 (list_at xss 0) (list_at xss 0) e e)

  -- Halves.
  none_above : (k steps : ℕ) → halved steps 0 ≡ k → k ≡ 0
  none_above k zero e = sym e
  none_above k (suc steps) e = none_above k steps e

  next_half : (steps place : ℕ) → halved steps (place / 2) ≡ halved steps place / 2
  next_half zero place = refl
  next_half (suc steps) place = next_half steps (place / 2)

  pub half_above : (place from : ℕ) → IsOnWay place from → IsOnWay (place / 2) from
  half_above place from a = record { steps = suc a.steps; is = next_half a.steps from ∙ ap (λ m. m / 2) a.is }

  above_by : (place from steps : ℕ) → halved steps from ≡ place → (from ≡ place) ⊎ IsOnWay place (from / 2)
  above_by place from zero e = inl e
  above_by place from (suc steps) e = inr (record { steps = steps; is = e })

  above_or : (place from : ℕ) → IsOnWay place from → (from ≡ place) ⊎ IsOnWay place (from / 2)
  above_or place from a = above_by place from a.steps a.is

  -- a source stands at each place
  pub place_inside : (lefts : List (Left X)) (places : List ℕ) (IsStale : ℕ → Type 0) → AreWinners cmp lefts places IsStale → (k : ℕ) → k < length lefts + length lefts → slice_index places k < length lefts
  place_inside lefts places IsStale all k inside = elim (cases_lt k (length lefts)) [
    | inl inner ↦ all.inside k inner
    | inr outer ↦
        (let there : length lefts + (k - length lefts) ≡ k = omega (arith, outer) in
        let is = all.last (k - length lefts) (omega (arith, outer, inside)) in
        let same : slice_index places k ≡ k - length lefts = ap (slice_index places) (sym there) ∙ is in
        omega (arith, same, outer, inside))
  ]

  -- who stands at a place came from after it
  module _ (lefts : List (Left X)) (places : List ℕ) (all : AreWinners cmp lefts places (λ k. IsOnWay k 0)) where
    fresh : (k : ℕ) → 1 ≤ k → IsOnWay k 0 → ⊥
    fresh k some a = let z = none_above k a.steps a.is in omega (arith, some, z)

    came_from : (fuel k i : ℕ) → 1 ≤ k → k < length lefts + length lefts → length lefts + length lefts ≤ k + fuel → slice_index places k ≡ i → IsOnWay k (length lefts + i)
    came_from zero k i some inside enough e = absurd (omega (arith, inside, enough))
    came_from (suc fuel) k i some inside enough e = elim (cases_lt k (length lefts)) [
      | inl inner ↦ elim ((all.first k some inner (fresh k some)).one) [
        | inl one ↦
            (let a = came_from fuel (2 * k) i (omega (arith, some)) (omega (arith, inner)) (omega (arith, some, enough)) (sym one ∙ e) in
            subst (λ m. IsOnWay m (length lefts + i)) (omega arith) (half_above (2 * k) (length lefts + i) a))
        | inr other ↦
            (let a = came_from fuel (2 * k + 1) i (omega (arith, some)) (omega (arith, inner)) (omega (arith, some, enough)) (sym other ∙ e) in
            subst (λ m. IsOnWay m (length lefts + i)) (omega arith) (half_above (2 * k + 1) (length lefts + i) a))
      ]
      | inr outer ↦
          (let j = k - length lefts in
          let there : length lefts + j ≡ k = omega (arith, outer) in
          let is : j ≡ i = sym (all.last j (omega (arith, there, inside))) ∙ ap (slice_index places) there ∙ e in
          record { steps = zero; is = ap (λ m. length lefts + m) (sym is) ∙ there })
    ]

    -- the source at place 1 goes before that at any other
    module _ (xss : List (List X)) (known : lists_left lefts ≡ Some xss) where
      abbrev at : ℕ → ℕ
      at k = slice_index places k

      abbrev before_at : ℕ → ℕ → Type 0
      before_at k m = goes cmp (nat_lt (at m) (at k)) (list_at xss (at k)) (list_at xss (at m)) ≡ true

      leads_at : (k m : ℕ) → at k < length lefts → at m < length lefts → Leads cmp lefts (at k) (at m) → before_at k m
      leads_at k m p q leads = leads (list_at xss (at k)) (list_at xss (at m)) (known_at_place lefts xss (at k) known p) (known_at_place lefts xss (at m) known q)

      child_by : (k m : ℕ) → 1 ≤ k → k < length lefts → m < length lefts + length lefts → (m ≡ 2 * k) ⊎ (m ≡ 2 * k + 1) → before_at k m
      child_by k m some inner inside (inl e) =
          leads_at k m (all.inside k inner) (place_inside lefts places (λ k. IsOnWay k 0) all m inside) (subst (λ c. Leads cmp lefts (at k) (at c)) (sym e) (all.first k some inner (fresh k some)).before_i)
      child_by k m some inner inside (inr e) =
          leads_at k m (all.inside k inner) (place_inside lefts places (λ k. IsOnWay k 0) all m inside) (subst (λ c. Leads cmp lefts (at k) (at c)) (sym e) (all.first k some inner (fresh k some)).before_j)

      halves : (m : ℕ) → (m ≡ 2 * (m / 2)) ⊎ (m ≡ 2 * (m / 2) + 1)
      halves m = elim (cases_lt (2 * (m / 2)) m) [
        | inl less ↦ inr (omega (arith, less))
        | inr same ↦ inl (omega (arith, same))
      ]

      root_leads : (fuel m : ℕ) → m ≤ fuel → 1 ≤ m → m < length lefts + length lefts → before_at 1 m
      root_leads zero m enough some inside = absurd (omega (arith, enough, some))
      root_leads (suc fuel) m enough some inside = elim (cases_lt 1 m) [
        | inl more ↦
            (let h : 1 ≤ m / 2 = omega (arith, more) in
            let inner : m / 2 < length lefts = omega (arith, inside) in
            goes_trans (at 1) (at (m / 2)) (at m) (list_at xss (at 1)) (list_at xss (at (m / 2))) (list_at xss (at m))
            (root_leads fuel (m / 2) (omega (arith, enough, more)) h (omega (arith, inner)))
            (child_by (m / 2) m h inner inside (halves m)))
        | inr one ↦
            (let e : 1 ≡ m = omega (arith, one, some) in
            let p = place_inside lefts places (λ k. IsOnWay k 0) all 1 (omega (arith, inside, e)) in
            subst (before_at 1) e (leads_at 1 1 p p (itself lefts (at 1))))
      ]

    pub root_is_pick : 0 < length lefts → IsPick cmp lefts (slice_index places 1)
    root_is_pick some =
        let inside = place_inside lefts places (λ k. IsOnWay k 0) all 1 (omega (arith, some)) in
        pick_by lefts (slice_index places 1) inside (λ xss known j m. (
        let e = all.last j m in
        subst (λ c. goes cmp (nat_lt c (slice_index places 1)) (list_at xss (slice_index places 1)) (list_at xss c) ≡ true) e
        (root_leads xss known (length lefts + j) (length lefts + j) (omega arith) (omega (arith, some)) (omega (arith, m)))))

    -- where its source went on, the places above that are stale
    unmoved : (i j : ℕ) (l : Left X) → j ≢ i → known_list (set lefts i l) j ≡ known_list lefts j
    unmoved i j l n =
        let f = λ (s : Left X). s.list in
        ap (λ os. get_or os j None) (map-set f lefts i l) ∙ get_or-set_other (map f lefts) i j (f l) None n

    still_leads : (i a b : ℕ) (l : Left X) → a ≢ i → b ≢ i → Leads cmp lefts a b → Leads cmp (set lefts i l) a b
    still_leads i a b l p q leads xs ys x y = leads xs ys (sym (unmoved i a l p) ∙ x) (sym (unmoved i b l q) ∙ y)

    -- a place that is not above it has another source, as have those after it
    not_here : (i k m : ℕ) → i < length lefts → 1 ≤ k → k < length lefts → (IsOnWay k ((length lefts + i) / 2) → ⊥) → 1 ≤ m → m < length lefts + length lefts → (m ≡ k) ⊎ (m / 2 ≡ k) → slice_index places m ≢ i
    not_here i k m inside some inner fresh_k p q way e =
        let from = length lefts + i in
        let a = came_from (length lefts + length lefts) m i p q (omega arith) e in
        let above : IsOnWay k from = elim way [
          | inl same ↦ subst (λ c. IsOnWay c from) same a
          | inr half ↦ subst (λ c. IsOnWay c from) half (half_above m from a)
        ] in
        elim (above_or k from above) [
          | inl same ↦ omega (arith, same, inner)
          | inr up ↦ fresh_k up
        ]

    pub still_places : (i : ℕ) (l : Left X) → i < length lefts → AreWinners cmp (set lefts i l) places (λ k. IsOnWay k ((length lefts + i) / 2))
    still_places i l inside =
        let n : length (set lefts i l) ≡ length lefts = length-set lefts i l in
        record {
          size = all.size ∙ ap (λ c. c + c) (sym n);
          last = λ j m. ap (λ c. slice_index places (c + j)) n ∙ all.last j (omega (arith, m, n));
          inside = λ k m. (let h = all.inside k (omega (arith, m, n)) in omega (arith, h, n));
          first = λ k some m fresh_k. (
              let inner : k < length lefts = omega (arith, m, n) in
              let old = all.first k some inner (fresh k some) in
              let won = not_here i k k inside some inner fresh_k some (omega (arith, inner)) (inl refl) in
              let one = not_here i k (2 * k) inside some inner fresh_k (omega (arith, some)) (omega (arith, inner)) (inr (omega arith)) in
              let other = not_here i k (2 * k + 1) inside some inner fresh_k (omega (arith, some)) (omega (arith, inner)) (inr (omega arith)) in
              let h = old.inside in
              record {
                inside = omega (arith, h, n);
                one = old.one;
                before_i = still_leads i (slice_index places k) (slice_index places (2 * k)) l won one old.before_i;
                before_j = still_leads i (slice_index places k) (slice_index places (2 * k + 1)) l won other old.before_j;
              });
        }

  -- A place is made.
  index_other : (places : List ℕ) (k j w : ℕ) → j ≢ k → slice_index (set places k w) j ≡ slice_index places j
  index_other places k j w n = get_or-set_other places k j w 0 n

  index_same : (places : List ℕ) (k w : ℕ) → k < length places → slice_index (set places k w) k ≡ w
  index_same places k w inside = get_or-set_same places k w 0 inside

  module _ (lefts : List (Left X)) (places : List ℕ) (k w : ℕ) (IsStale IsStaleNow : ℕ → Type 0) where
    pub place_made : AreWinners cmp lefts places IsStale → 1 ≤ k → k < length lefts → IsFirstOf cmp lefts (slice_index places (2 * k)) (slice_index places (2 * k + 1)) w
        → ((j : ℕ) → 1 ≤ j → j ≢ k → (IsStaleNow j → ⊥) → (IsStale j → ⊥) × (2 * j ≢ k) × (2 * j + 1 ≢ k)) → AreWinners cmp lefts (set places k w) IsStaleNow
    place_made all some inner won others =
        let size : length (set places k w) ≡ length lefts + length lefts = length-set places k w ∙ all.size in
        let inside : k < length places = (let n = all.size in omega (arith, n, inner)) in
        record {
          size = size;
          last = λ i m. index_other places k (length lefts + i) w (λ e. omega (arith, e, inner)) ∙ all.last i m;
          inside = λ j m. elim (cases_eq j k) [
            | inl same ↦ subst (λ c. c < length lefts) (sym (ap (slice_index (set places k w)) same ∙ index_same places k w inside)) won.inside
            | inr differ ↦ subst (λ c. c < length lefts) (sym (index_other places k j w differ)) (all.inside j m)
          ];
          first = λ j one m fresh. elim (cases_eq j k) [
            | inl same ↦
                (let a = index_other places k (2 * j) w (λ e. omega (arith, e, same, some)) ∙ ap (λ c. slice_index places (2 * c)) same in
                let b = index_other places k (2 * j + 1) w (λ e. omega (arith, e, same, some)) ∙ ap (λ c. slice_index places (2 * c + 1)) same in
                let c = ap (slice_index (set places k w)) same ∙ index_same places k w inside in
                transported (sym a) (sym b) (sym c) won)
            | inr differ ↦
                (let o = others j one differ fresh in
                transported (sym (index_other places k (2 * j) w o.1)) (sym (index_other places k (2 * j + 1) w o.2)) (sym (index_other places k j w differ)) (all.first j one m o.0))
          ];
        }
      where
        transported : {a b c d e f : ℕ} → a ≡ d → b ≡ e → c ≡ f → IsFirstOf cmp lefts a b c → IsFirstOf cmp lefts d e f
        transported {b = b} {c = c} {d = d} {e = e} p q r h = subst (λ z. IsFirstOf cmp lefts d e z) r (subst (λ y. IsFirstOf cmp lefts d y c) q (subst (λ x. IsFirstOf cmp lefts x b c) p h))

  -- on the way to the first place
  pub place_above : (lefts : List (Left X)) (places : List ℕ) (k w : ℕ) → AreWinners cmp lefts places (λ j. IsOnWay j k) → 1 ≤ k → k < length lefts → IsFirstOf cmp lefts (slice_index places (2 * k)) (slice_index places (2 * k + 1)) w
      → AreWinners cmp lefts (set places k w) (λ j. IsOnWay j (k / 2))
  place_above lefts places k w all some inner won =
      place_made lefts places k w (λ j. IsOnWay j k) (λ j. IsOnWay j (k / 2)) all some inner won
      (λ j one differ fresh. (
        (λ a. elim (above_or j k a) [
          | inl same ↦ differ (sym same)
          | inr up ↦ fresh up
        ]),
        (λ e. fresh (record { steps = zero; is = omega (arith, e) })),
        (λ e. fresh (record { steps = zero; is = omega (arith, e) })),
      ))

  -- and from the last to the first
  pub place_before : (lefts : List (Left X)) (places : List ℕ) (k w : ℕ) → AreWinners cmp lefts places (λ j. j < k + 1) → 1 ≤ k → k < length lefts → IsFirstOf cmp lefts (slice_index places (2 * k)) (slice_index places (2 * k + 1)) w
      → AreWinners cmp lefts (set places k w) (λ j. j < k)
  place_before lefts places k w all some inner won =
      place_made lefts places k w (λ j. j < k + 1) (λ j. j < k) all some inner won
      (λ j one differ fresh. (
      let up : k < j = elim (cases_lt k j) [
        | inl more ↦ more
        | inr less ↦ absurd (elim (cases_lt j k) [
          | inl below ↦ fresh below
          | inr same ↦ differ (omega (arith, same, less))
        ])
      ] in
      ((λ a. omega (arith, a, up)), (λ e. omega (arith, e, up)), (λ e. omega (arith, e, up)))))

  -- a tournament none of whose places is stale
  pub all_fresh : (lefts : List (Left X)) (places : List ℕ) (k : ℕ) → k ≤ 1 → AreWinners cmp lefts places (λ j. j < k) → AreWinners cmp lefts places (λ j. IsOnWay j 0)
  all_fresh lefts places k small all = record {
    size = all.size;
    last = all.last;
    inside = all.inside;
    first = λ j one m fresh. all.first j one m (λ below. omega (arith, below, small, one));
  }

  -- where the source that goes first went on, the places above it are stale
  pub still_tournament : (lefts seen : List (Left X)) (places : List ℕ) (stale count i : ℕ) (l : Left X) → seen ≡ lefts → stale ≡ 0 → count ≡ length seen → i < length seen → IsTournament cmp seen places stale → IsTournament cmp (set lefts i l) places ((count + i) / 2)
  still_tournament lefts seen places stale count i l same none whole inside there = subst (λ n. IsTournament cmp (set lefts i l) places ((n + i) / 2)) (sym whole)
      (subst (λ ls. IsTournament cmp (set ls i l) places ((length seen + i) / 2)) same (step inside there))
    where
      step : i < length seen → IsTournament cmp seen places stale → IsTournament cmp (set seen i l) places ((length seen + i) / 2)
      step m t = record {
        stale_inside = (let n = length-set seen i l in omega (arith, n, m));
        places_are = still_places seen places (subst (λ k. AreWinners cmp seen places (λ j. IsOnWay j k)) none t.places_are) i l m;
      }
