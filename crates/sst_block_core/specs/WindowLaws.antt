-- Laws of windows: what a step does to the items left.
use Rattle.std.proofs.Common.{◌≡◌, ℕ, ◌+◌, ◌-◌, ◌<◌, ◌≤◌, zero, suc, cond, ltb, List, [], ◌∷◌, ◌++◌, refl, length, take, drop, Option, Some, None, sym, ap, ◌∙◌, arith, inl, inr}
use Rattle.std.specs.List.{slice_get}
use Rattle.std.proofs.lemmas.Bool.{cases_Bool, ltb-true, ltb-false}
use Rattle.std.proofs.lemmas.List.{drop_more, drop_all, take_all, take_more}
use Rattle.std.proofs.lemmas.Option.{slice_get_within, get_or_from_slice_get}
use Rattle.sst_base.specs.ReadingLaws.{pair_parts}
use Rattle.sst_block_core.specs.Window.{Window, Answer, Step, item, next, next_back, items_left, whole, first_left, last_left, answers, window_after}

-- an answer holds one item
pub item_same : {X : Type 0} (a b : Option X) → ◌≡◌ {A = Answer X} (item a) (item b) → a ≡ b
item_same a b e = cc

-- item n of a list without its first lo items is item lo + n of the list
slice_get-drop : {X : Type 0} (xs : List X) (lo n : ℕ) → slice_get (drop lo xs) n ≡ slice_get xs (lo + n)
slice_get-drop xs zero n = ap (slice_get xs) (let e : n ≡ 0 + n = omega arith in e)
slice_get-drop [] (suc lo) n = refl
slice_get-drop (x ∷ xs) (suc lo) n = slice_get-drop xs lo n ∙ ap (slice_get (x ∷ xs)) (let e : suc (lo + n) ≡ suc lo + n = omega arith in e)

-- one item more of a list
pub take_one_more : {X : Type 0} (xs : List X) (n : ℕ) (x : X) → slice_get xs n ≡ Some x → take (suc n) xs ≡ take n xs ++ x ∷ []
take_one_more xs n x here =
    ap (λ k. take k xs) (let e : suc n ≡ n + 1 = omega arith in e)
    ∙ take_more xs n x (slice_get_within xs n x here)
    ∙ ap (λ y. take n xs ++ y ∷ []) (get_or_from_slice_get xs n x x here)

past_from_none : {X : Type 0} (xs : List X) (i : ℕ) → slice_get xs i ≡ None → length xs ≤ i
past_from_none [] i h = omega arith
past_from_none (x ∷ xs) zero h = absurd (cc)
past_from_none (x ∷ xs) (suc i) h = let r = past_from_none xs i h in omega arith

module _ {X : Type 0} where
  -- a step that gives an item takes the first of those left
  pub next_some : (s t : Window X) (x : X) → ◌≡◌ {A = Window X × Answer X} (t, item (Some x)) (next s) → (items_left s ≡ x ∷ items_left t) × (suc (t.hi - t.lo) ≡ s.hi - s.lo)
  next_some s t x e =
      let p = pair_parts t (cond (ltb s.lo s.hi) (record s { lo = s.lo + 1 }) s) (item (Some x)) (item (first_left s)) e in
      let given = item_same (Some x) (first_left s) p.1 in
      elim (cases_Bool (ltb s.lo s.hi)) [
        | inl some ↦ (
            let below : s.lo < s.hi = ltb-true s.lo s.hi some in
            let window : t ≡ record s { lo = s.lo + 1 } = p.0 ∙ ap (λ b. cond b (record s { lo = s.lo + 1 }) s) some in
            let here : slice_get s.list s.lo ≡ Some x = sym (given ∙ ap (λ b. cond b (slice_get s.list s.lo) None) some) in
            let within = slice_get_within s.list s.lo x here in
            let front : drop s.lo s.list ≡ x ∷ drop (s.lo + 1) s.list = drop_more s.list s.lo x within ∙ ap (λ y. y ∷ drop (s.lo + 1) s.list) (get_or_from_slice_get s.list s.lo x x here) in
            let count : s.hi - s.lo ≡ suc (s.hi - (s.lo + 1)) = omega arith in (
              (λ i. take (count i) (front i)) ∙ ap (λ w. x ∷ items_left w) (sym window),
              ap (λ (w : Window X). suc (w.hi - w.lo)) window ∙ sym count,
            ))
        | inr none ↦ absurd (let e : Some x ≡ None = given ∙ ap (λ b. cond b (slice_get s.list s.lo) None) none in cc)
      ]

  -- a step that gives none finds none left, and leaves none
  pub next_none : (s t : Window X) → ◌≡◌ {A = Window X × Answer X} (t, item None) (next s) → (items_left s ≡ []) × (items_left t ≡ [])
  next_none s t e =
      let p = pair_parts t (cond (ltb s.lo s.hi) (record s { lo = s.lo + 1 }) s) (item None) (item (first_left s)) e in
      let given = item_same None (first_left s) p.1 in
      elim (cases_Bool (ltb s.lo s.hi)) [
        | inl some ↦ (
            let window : t ≡ record s { lo = s.lo + 1 } = p.0 ∙ ap (λ b. cond b (record s { lo = s.lo + 1 }) s) some in
            let here : slice_get s.list s.lo ≡ None = sym (given ∙ ap (λ b. cond b (slice_get s.list s.lo) None) some) in
            let past = past_from_none s.list s.lo here in
            let later : length s.list ≤ s.lo + 1 = omega arith in (
              ap (take (s.hi - s.lo)) (drop_all s.lo s.list past) ∙ take_all (s.hi - s.lo) [] (omega arith),
              ap (λ w. items_left w) window ∙ ap (take (s.hi - (s.lo + 1))) (drop_all (s.lo + 1) s.list later) ∙ take_all (s.hi - (s.lo + 1)) [] (omega arith),
            ))
        | inr none ↦ (
            let window : t ≡ s = p.0 ∙ ap (λ b. cond b (record s { lo = s.lo + 1 }) s) none in
            let past : s.hi ≤ s.lo = ltb-false s.lo s.hi none in
            let z : s.hi - s.lo ≡ 0 = omega arith in
            let empty : items_left s ≡ [] = ap (λ n. take n (drop s.lo s.list)) z in
            (empty, ap (λ w. items_left w) window ∙ empty))
      ]

  -- all items are left of a fresh window
  pub items_left-whole : (items : List X) → items_left (whole items) ≡ items
  items_left-whole items = take_all (length items - 0) items (omega arith)

  -- a step that gives an item from the back takes the last of those left
  pub back_some : (s t : Window X) (x : X) → s.hi ≤ length s.list → ◌≡◌ {A = Window X × Answer X} (t, item (Some x)) (next_back s) → items_left s ≡ items_left t ++ x ∷ []
  back_some s t x within e =
      let p = pair_parts t (cond (ltb s.lo s.hi) (record s { hi = s.hi - 1 }) s) (item (Some x)) (item (last_left s)) e in
      let given = item_same (Some x) (last_left s) p.1 in
      elim (cases_Bool (ltb s.lo s.hi)) [
        | inl some ↦
            let below : s.lo < s.hi = ltb-true s.lo s.hi some in
            let window : t ≡ record s { hi = s.hi - 1 } = p.0 ∙ ap (λ b. cond b (record s { hi = s.hi - 1 }) s) some in
            let here : slice_get s.list (s.hi - 1) ≡ Some x = sym (given ∙ ap (λ b. cond b (slice_get s.list (s.hi - 1)) None) some) in
            let n = s.hi - 1 - s.lo in
            let count : s.hi - s.lo ≡ suc n = omega arith in
            let there : slice_get (drop s.lo s.list) n ≡ Some x = slice_get-drop s.list s.lo n ∙ ap (slice_get s.list) (let e : s.lo + n ≡ s.hi - 1 = omega arith in e) ∙ here in
            ap (λ k. take k (drop s.lo s.list)) count
            ∙ take_one_more (drop s.lo s.list) n x there
            ∙ ap (λ w. items_left w ++ x ∷ []) (sym window)
        | inr none ↦ absurd (let e : Some x ≡ None = given ∙ ap (λ b. cond b (slice_get s.list (s.hi - 1)) None) none in cc)
      ]

  -- a step that gives none from the back finds none left, and leaves none
  pub back_none : (s t : Window X) → s.hi ≤ length s.list → ◌≡◌ {A = Window X × Answer X} (t, item None) (next_back s) → (items_left s ≡ []) × (items_left t ≡ [])
  back_none s t within e =
      let p = pair_parts t (cond (ltb s.lo s.hi) (record s { hi = s.hi - 1 }) s) (item None) (item (last_left s)) e in
      let given = item_same None (last_left s) p.1 in
      elim (cases_Bool (ltb s.lo s.hi)) [
        | inl some ↦ absurd (
            let below : s.lo < s.hi = ltb-true s.lo s.hi some in
            let here : slice_get s.list (s.hi - 1) ≡ None = sym (given ∙ ap (λ b. cond b (slice_get s.list (s.hi - 1)) None) some) in
            let past = past_from_none s.list (s.hi - 1) here in
            omega arith)
        | inr none ↦ (
            let window : t ≡ s = p.0 ∙ ap (λ b. cond b (record s { hi = s.hi - 1 }) s) none in
            let past : s.hi ≤ s.lo = ltb-false s.lo s.hi none in
            let z : s.hi - s.lo ≡ 0 = omega arith in
            let empty : items_left s ≡ [] = ap (λ n. take n (drop s.lo s.list)) z in
            (empty, ap (λ w. items_left w) window ∙ empty))
      ]

  -- the answers to steps and to more steps are those to the first, and then those to the others where the first left off
  pub answers_append : (first others : List (Step X)) (w : Window X) → answers (first ++ others) w ≡ answers first w ++ answers others (window_after first w)
  answers_append [] others w = refl
  answers_append (step ∷ steps) others w = ap (λ rest. (step w).1 ∷ rest) (answers_append steps others (step w).0)
