-- Lists of places of which a part is turned round.
use Rattle.std.proofs.Common.{◌≡◌, ◌∙◌, ℕ, ◌+◌, ◌-◌, ◌≤◌, ◌<◌, Bool, cond, List, [], ◌∷◌, ◌++◌, length, take, drop, reverse, get_or, refl, sym, ap, arith, subst, inl, inr, Option, Some, append_assoc, length-append, length-drop}
use Rattle.std.specs.Prelude.{slice_get, filter}
use Rattle.std.proofs.lemmas.Bool.{cases_Bool, cases_lt}
use Rattle.std.proofs.lemmas.List.{drop_at, get_or-append_right, get_or-drop, get_or-reverse, get_or-take, get_or_append_left, length-reverse, length-take-le, reverse-append}
use Rattle.std.proofs.lemmas.List.Elements.{filter-append}
use Rattle.std.proofs.lemmas.Option.{get_or_from_slice_get, slice_get-get_or, slice_get_within}
use Rattle.std.proofs.Math.Nat.{min-le_left}
use Rattle.std.proofs.lemmas.List.{length-take}
use Rattle.std.specs.Prelude.{◌⊎◌}
use Rattle.sstable_blocks.specs.Prelude.{Entry}
use Rattle.sst_calls.specs.Batches.{Lists, is_under, visible}
use Rattle.sst_calls.specs.Blocks.{IsPlaceOf}
use Rattle.sst_calls.specs.Listing.{AreListed}
use Rattle.sst_calls.specs.declared.data_block.SstPlace.{SstPlace}
use Rattle.sst_calls.proofs.Lists.BlockWindows.{between}

-- a list whose part between two indexes is turned round
abbrev pub turned : {X : Type 0} → ℕ → ℕ → List X → List X
turned a b xs = take a xs ++ (reverse (take (b - a) (drop a xs)) ++ drop b xs)

module _ {X : Type 0} (xs : List X) (a b : ℕ) (some : a ≤ b) (inside : b ≤ length xs) where
  part_len : length (take (b - a) (drop a xs)) ≡ b - a
  part_len = length-take-le (b - a) (drop a xs) (omega (arith, length-drop a xs, inside))

  front_len : length (take a xs) ≡ a
  front_len = length-take-le a xs (omega (arith, some, inside))

  pub length-turned : length (turned a b xs) ≡ length xs
  length-turned =
      let part = reverse (take (b - a) (drop a xs)) in
      omega (arith, length-append (take a xs) (part ++ drop b xs), length-append part (drop b xs), front_len, length-reverse (take (b - a) (drop a xs)), part_len, length-drop b xs, some, inside)

  pub turned_before : (i : ℕ) (d : X) → i < a → get_or (turned a b xs) i d ≡ get_or xs i d
  turned_before i d less =
      get_or_append_left (take a xs) (reverse (take (b - a) (drop a xs)) ++ drop b xs) d i (omega (arith, front_len, less)) ∙ get_or-take a xs i d less

  pub turned_within : (i : ℕ) (d : X) → a ≤ i → i < b → get_or (turned a b xs) i d ≡ get_or xs (a + b - 1 - i) d
  turned_within i d more less =
      let part = take (b - a) (drop a xs) in
      let at : length part - 1 - (i - a) ≡ b - 1 - i = omega (arith, part_len, more, less) in
      let place : a + (b - 1 - i) ≡ a + b - 1 - i = omega (arith, more, less) in
      get_or-append_right (take a xs) (reverse part ++ drop b xs) a i d front_len more
      ∙ get_or_append_left (reverse part) (drop b xs) d (i - a) (omega (arith, length-reverse part, part_len, more, less))
      ∙ get_or-reverse part (i - a) d (omega (arith, part_len, more, less))
      ∙ ap (λ n. get_or part n d) at
      ∙ get_or-take (b - a) (drop a xs) (b - 1 - i) d (omega (arith, more, less))
      ∙ get_or-drop a xs (b - 1 - i) d
      ∙ ap (λ n. get_or xs n d) place

  pub drop-turned : drop b (turned a b xs) ≡ drop b xs
  drop-turned =
      let part = take (b - a) (drop a xs) in
      let front = take a xs ++ reverse part in
      let size : length front ≡ b = omega (arith, length-append (take a xs) (reverse part), front_len, length-reverse part, part_len, some) in
      ap (λ (v : List _). drop b v) (sym (append_assoc (take a xs) (reverse part) (drop b xs))) ∙ drop_at front (drop b xs) b size

-- the entries after some, turned round with their places
pub listed_turned : (p : List ℕ) (before ys : List Entry) (start mid : List SstPlace) (a b : ℕ) → length before ≡ a → a + length ys ≡ b → b ≤ length mid → AreListed p (before ++ ys) start mid
    → AreListed p (before ++ reverse ys) start (turned a b mid)
listed_turned p before ys start mid a b front all inside are = record {
  each = each;
  others = ap (λ n. drop n (turned a b mid)) size ∙ drop-turned mid a b some inside ∙ ap (λ n. drop n mid) (sym whole) ∙ are.others ∙ ap (λ n. drop n start) (whole ∙ sym size);
  kept = length-turned mid a b some inside ∙ are.kept;
}
  where
    some : a ≤ b
    some = omega (arith, all)

    whole : length (before ++ ys) ≡ b
    whole = omega (arith, length-append before ys, front, all)

    size : length (before ++ reverse ys) ≡ b
    size = omega (arith, length-append before (reverse ys), length-reverse ys, front, all)

    is_at : (k : ℕ) (g : SstPlace) (d : Entry) → k < b → get_or mid k g ≡ g → get_or (before ++ ys) k d ≡ d → IsPlaceOf p g d
    is_at k g d less here there =
        are.each k g d (slice_get-get_or mid k g (omega (arith, less, inside)) ∙ ap Some here) (slice_get-get_or (before ++ ys) k d (omega (arith, less, whole)) ∙ ap Some there)

    each : (i : ℕ) (g : SstPlace) (d : Entry) → slice_get (turned a b mid) i ≡ Some g → slice_get (before ++ reverse ys) i ≡ Some d → IsPlaceOf p g d
    each i g d here there = elim (cases_lt i a) [
      | inl less ↦ is_at i g d (omega (arith, less, some)) (sym (turned_before mid a b some inside i g less) ∙ get_or_from_slice_get (turned a b mid) i g g here)
          (get_or_append_left before ys d i (omega (arith, front, less)) ∙ sym (get_or_append_left before (reverse ys) d i (omega (arith, front, less))) ∙ get_or_from_slice_get (before ++ reverse ys) i d d there)
      | inr more ↦ (
          let less : i < b = omega (arith, slice_get_within (before ++ reverse ys) i d there, size) in
          let k = a + b - 1 - i in
          let same : k - a ≡ length ys - 1 - (i - a) = omega (arith, all, more, less) in
          is_at k g d (omega (arith, more, less)) (sym (turned_within mid a b some inside i g more less) ∙ get_or_from_slice_get (turned a b mid) i g g here)
          (get_or-append_right before ys a k d front (omega (arith, less)) ∙ ap (λ n. get_or ys n d) same ∙ sym (get_or-reverse ys (i - a) d (omega (arith, all, more, less)))
          ∙ sym (get_or-append_right before (reverse ys) a i d front more) ∙ get_or_from_slice_get (before ++ reverse ys) i d d there))
    ]

one_reversed : {X : Type 0} (p : X → Bool) (x : X) → reverse (filter p (x ∷ [])) ≡ filter p (x ∷ [])
one_reversed p x = elim (cases_Bool (p x)) [
  | inl shown ↦ ap (λ b. reverse (cond b (x ∷ []) [])) shown ∙ sym (ap (λ b. cond b (x ∷ []) []) shown)
  | inr hidden ↦ ap (λ b. reverse (cond b (x ∷ []) [])) hidden ∙ sym (ap (λ b. cond b (x ∷ []) []) hidden)
]

filter-reverse : {X : Type 0} (p : X → Bool) (xs : List X) → filter p (reverse xs) ≡ reverse (filter p xs)
filter-reverse p [] = refl
filter-reverse p (x ∷ xs) =
    ap (filter p) (reverse-append (x ∷ []) xs) ∙ filter-append p (reverse xs) (x ∷ []) ∙ ap (λ (v : List _). v ++ filter p (x ∷ [])) (filter-reverse p xs)
    ∙ ap (λ (v : List _). reverse (filter p xs) ++ v) (sym (one_reversed p x)) ∙ sym (reverse-append (filter p (x ∷ [])) (filter p xs)) ∙ ap (λ (v : List _). reverse v) (sym (filter-append p (x ∷ []) xs))

-- entries that were listed, the last first
pub lists_turned : (bytes : List ℕ) (below : Option ℕ) (passed : List Entry) (old mid : List SstPlace) (a b : ℕ) → Lists bytes below passed old mid a b → Lists bytes below (reverse passed) old (turned a b mid) a b
lists_turned bytes below passed old mid a b lists =
    let shown = visible below passed in
    let back : visible below (reverse passed) ≡ reverse shown = filter-reverse (λ (e : Entry). is_under below e.key.seqno) passed in
    let some : a ≤ b = omega (arith, lists.count) in
    let inside : b ≤ length mid = omega (arith, lists.room, lists.kept) in
    record {
      more = λ start before len are. subst (λ ys. AreListed bytes (before ++ ys) start (turned a b mid)) (sym back)
          (listed_turned bytes before shown start mid a b len (sym lists.count) inside (lists.more start before len are));
      count = omega (arith, lists.count, ap (λ (ys : List Entry). length ys) back, length-reverse shown);
      room = lists.room;
      kept = length-turned mid a b some inside ∙ lists.kept;
    }

filter-le-length : {X : Type 0} (p : X → Bool) (xs : List X) → length (filter p xs) ≤ length xs
filter-le-length p [] = omega arith
filter-le-length p (x ∷ xs) =
    let more = filter-le-length p xs in
    elim (cases_Bool (p x)) [
      | inl shown ↦ omega (arith, more, ap (λ b. length (cond b (x ∷ filter p xs) (filter p xs))) shown)
      | inr hidden ↦ omega (arith, more, ap (λ b. length (cond b (x ∷ filter p xs) (filter p xs))) hidden)
    ]

-- where there is room for all entries up to an index, none is left out
pub whole_listed : (below : Option ℕ) (items : List Entry) (from r to a b room : ℕ) → from ≤ r → r ≤ to → a + (to - from) ≤ room → (r ≡ to) ⊎ (b ≡ room) → b ≡ a + length (visible below (between items from r)) → r ≡ to
whole_listed below items from r to a b room more less fits (inl end) count = end
whole_listed below items from r to a b room more less fits (inr full) count =
    let part = between items from r in
    let few = filter-le-length (λ (e : Entry). is_under below e.key.seqno) part in
    let most = min-le_left (r - from) (length (drop from items)) in
    omega (arith, full, count, few, length-take (r - from) (drop from items), most, fits, more, less)
