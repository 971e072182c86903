-- Laws of offsets: where forms begin.
use Rattle.std.proofs.Common.{◌≡◌, ℕ, ◌+◌, ◌-◌, ◌%◌, ◌<◌, ◌≤◌, suc, cond, eqb, List, [], ◌∷◌, ◌++◌, length, take, drop, refl, sym, ap, ◌∙◌, arith, append_assoc, length-append, map, length-drop, inl, inr, ◌*◌}
use Rattle.std.proofs.lemmas.List.{get_or_append_left, take-append-drop, take-take, take-map, length-take-le}
use Rattle.sst_block_core.specs.Kind.{Kind, IsKind}
use Rattle.sst_block_core.specs.Body.{truncated_against, item_form, forms, body, place_offset}
use Rattle.sst_block_core.specs.BodyLaws.{body-plain, cond_has}
use Rattle.std.proofs.lemmas.Bool.{cases_lt}
use Rattle.std.proofs.lemmas.Nat.{mul-le}

module _ {X : Type 0} (kind : Kind X) (r : ℕ) (pos : 0 < r) where
  -- what follows an item changes nothing of its item_form
  form-append : (items more : List X) (i : ℕ) (x : X) → i < length items → item_form kind r (items ++ more) i x ≡ item_form kind r items i x
  form-append items more i x h =
      ap (λ head. cond (eqb (i % r) 0) (kind.full x) (truncated_against kind head x)) (get_or_append_left items more x (i - i % r) (omega arith))

  -- the forms of two lists, one after the other
  pub forms-append : (items : List X) (i : ℕ) (xs ys : List X) → forms kind r items i (xs ++ ys) ≡ forms kind r items i xs ++ forms kind r items (length xs + i) ys
  forms-append items i [] ys = ap (λ n. forms kind r items n ys) (omega arith)
  forms-append items i (x ∷ xs) ys =
      let e : length xs + (i + 1) ≡ suc (length xs) + i = omega arith in
      rw (forms-append items (i + 1) xs ys, e) (sym (append_assoc (item_form kind r items i x) (forms kind r items (i + 1) xs) (forms kind r items (suc (length xs) + i) ys)))

  forms-more : (items more : List X) (i : ℕ) (xs : List X) → i + length xs ≤ length items → forms kind r (items ++ more) i xs ≡ forms kind r items i xs
  forms-more items more i [] h = refl
  forms-more items more i (x ∷ xs) h =
      let one = form-append items more i x (omega arith) in
      let rest = forms-more items more (i + 1) xs (omega arith) in
      cc

  -- the body of a list is the body of its first items and the forms of the rest
  pub body-append : (xs ys : List X) → body kind r (xs ++ ys) ≡ body kind r xs ++ forms kind r (xs ++ ys) (length xs) ys
  unfolding body
  body-append xs ys =
      forms-append (xs ++ ys) 0 xs ys
      ∙ ap (λ front. front ++ forms kind r (xs ++ ys) (length xs + 0) ys) (forms-more xs ys 0 xs (omega arith))
      ∙ ap (λ n. forms kind r xs 0 xs ++ forms kind r (xs ++ ys) n ys) (omega arith)

  front_le : (xs ys : List X) → length (body kind r xs) ≤ length (body kind r (xs ++ ys))
  front_le xs ys = let e = ap length (body-append xs ys) in let l = length-append (body kind r xs) (forms kind r (xs ++ ys) (length xs) ys) in omega (arith, e, l)

  take_le : (n : ℕ) (xs : List X) → length (body kind r (take n xs)) ≤ length (body kind r xs)
  take_le n xs = let h = front_le (take n xs) (drop n xs) in let e = ap (λ ys. length (body kind r ys)) (take-append-drop n xs) in omega (arith, h, e)

  -- each place begins within the body
  pub place_inside : (items : List X) (i : ℕ) → place_offset kind r items i ≤ length (body kind r items)
  place_inside items i = take_le i items

  -- a later place begins no earlier
  pub place_rises : (items : List X) (i j : ℕ) → i ≤ j → place_offset kind r items i ≤ place_offset kind r items j
  place_rises items i j h =
      let k = take_le i (take j items) in
      let e = ap (λ ys. length (body kind r ys)) (take-take i j items h) in
      omega (arith, k, e)

  module _ (valid : X → Type 0) (laws : IsKind kind valid) where
    -- decoding moves no place
    pub place_plain : (items : List X) (i : ℕ) → place_offset kind r (map kind.plain items) i ≡ place_offset kind r items i
    place_plain items i = ap (λ ys. length (body kind r ys)) (take-map kind.plain i items) ∙ ap length (body-plain kind r pos valid laws (take i items))

    length-forms : (items xs : List X) (i : ℕ) → length xs ≤ length (forms kind r items i xs)
    length-forms items [] i = omega arith
    length-forms items (x ∷ xs) i =
        let rest = length-forms items xs (i + 1) in
        let l = length-append (item_form kind r items i x) (forms kind r items (i + 1) xs) in
        let has : 0 < length (item_form kind r items i x) = cond_has (eqb (i % r) 0) _ _ (laws.full_some x) (laws.truncated_some x _) in
        omega (arith, rest, l, has)

    -- no item_form is empty
    pub body_long : (items : List X) → length items ≤ length (body kind r items)
    unfolding body
    body_long items = length-forms items items 0

    -- a later place begins at a greater offset
    pub place_gap : (items : List X) (i j : ℕ) → i ≤ j → j ≤ length items → place_offset kind r items i + (j - i) ≤ place_offset kind r items j
    place_gap items i j h inside =
        let xs = take j items in
        let front : take i xs ≡ take i items = take-take i j items h in
        let whole = ap (λ ys. length (body kind r ys)) (take-append-drop i xs) in
        let split = body-append (take i xs) (drop i xs) in
        let l = ap length split ∙ length-append (body kind r (take i xs)) (forms kind r (take i xs ++ drop i xs) (length (take i xs)) (drop i xs)) in
        let rest = length-forms (take i xs ++ drop i xs) (drop i xs) (length (take i xs)) in
        let n = length-drop i xs in
        let m = length-take-le j items inside in
        let e = ap (λ ys. length (body kind r ys)) front in
        omega (arith, whole, l, rest, n, m, e)

    -- a head whose offset is at most another's has at most its index
    pub head_upto : (items : List X) (i j : ℕ) → i * r < length items → j * r < length items → place_offset kind r items (i * r) ≤ place_offset kind r items (j * r) → i ≤ j
    head_upto items i j h k le = elim (cases_lt j i) [
      | inl less ↦ absurd (
          let row : (j + 1) * r ≡ j * r + r = omega arith in
          let t : (j + 1) * r ≤ i * r = mul-le (j + 1) r i r (omega arith) (omega arith) in
          let g = place_gap items (j * r) (i * r) (omega (arith, row, t)) (omega (arith, h)) in
          omega (arith, g, le, row, t, pos))
      | inr ge ↦ ge
    ]

    -- a head whose offset is less has a lesser index
    pub head_behind : (items : List X) (i j : ℕ) → i * r < length items → j * r < length items → place_offset kind r items (j * r) < place_offset kind r items (i * r) → j < i
    head_behind items i j h k lt = elim (cases_lt j i) [
      | inl less ↦ less
      | inr ge ↦ absurd (
          let t : i * r ≤ j * r = mul-le i r j r ge (omega arith) in
          let g = place_rises items (i * r) (j * r) t in
          omega (arith, g, lt))
    ]
