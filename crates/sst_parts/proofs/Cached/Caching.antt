-- What a cache keeps: as a list, from the most recently used to the least.
use Rattle.std.proofs.Common.{◌≡◌, ℕ, zero, suc, ◌+◌, ◌-◌, ◌^◌, ◌<◌, ◌≤◌, Bool, true, false, cond, List, [], ◌∷◌, length, take, refl, arith, sym, ◌∙◌, ap, subst, inl, inr, Option, Some, None, Result, Ok, Err}
use Rattle.std.specs.List.{AllByRecursion, slice_get}
use Rattle.std.specs.Map.{lookup, lookup_entry, remove_entry}
use Rattle.std.specs.Option.{option_map_or}
use Rattle.std.specs.Prelude.{OnOk, is_ok, is_some, nat_eq, nat_le}
use Rattle.std.proofs.lemmas.Bool.{cases_Bool, leb-true, leb-false, eqb-true}
use Rattle.lru.specs.LruCache.{LruCache, promoted, put_entries}
use Rattle.sstable_blocks.specs.BlockLaws.{and_parts}
use Rattle.sst_parts.specs.Caches.{CacheParts, IsLatest, Kept, Place, fitting, is_place, kept_at, kept_bytes, looked_up, one_more}

-- kept things, each of a size
module _ {V : Type 0} (size : V → ℕ) where
  -- where the last block goes
  last_of : (n : ℕ) (es : List (Kept V)) (e : Kept V) → length es ≡ suc n → slice_get es n ≡ Some e → kept_bytes size es ≡ kept_bytes size (take n es) + size e.1
  last_of n [] e len at = absurd (omega (arith, len))
  last_of zero (x ∷ []) e len at = let same : x ≡ e = cc in ap (λ (y : Kept V). size y.1 + 0) same ∙ omega arith
  last_of zero (x ∷ y ∷ es) e len at = absurd (omega (arith, len))
  last_of (suc n) (x ∷ es) e len at = let ih = last_of n es e (omega (arith, len)) at in omega (arith, ih)

  past : (es : List (Kept V)) (n : ℕ) → slice_get es n ≡ None → length es ≤ n
  past [] n none = omega arith
  past (x ∷ es) zero none = cc
  past (x ∷ es) (suc n) none = let ih = past es n none in omega (arith, ih)

  pub none_last : (es : List (Kept V)) → None ≡ slice_get es (length es - 1) → kept_bytes size es ≡ 0
  none_last [] none = refl
  none_last (x ∷ es) none = let no : length (x ∷ es) ≤ length (x ∷ es) - 1 = past (x ∷ es) (length (x ∷ es) - 1) (sym none) in absurd (omega (arith, no))

  counted : (es : List (Kept V)) (e : Kept V) → Some e ≡ slice_get es (length es - 1) → length es ≡ suc (length es - 1)
  counted [] e at = cc
  counted (x ∷ es) e at = omega arith

  pub last_out : (es : List (Kept V)) (e : Kept V) → Some e ≡ slice_get es (length es - 1) → kept_bytes size es ≡ kept_bytes size (take (length es - 1) es) + size e.1
  last_out es e at = last_of (length es - 1) es e (counted es e at) (sym at)

  -- and where the blocks are too long, what fits is the same without it
  fitting_front : (room n : ℕ) (es : List (Kept V)) → length es ≡ suc n → room < kept_bytes size es → fitting size room (take n es) ≡ fitting size room es
  fitting_front room n [] len more = absurd (omega (arith, len))
  fitting_front room zero (x ∷ []) len more =
      elim (cases_Bool (nat_le (size x.1) room)) [
        | inl t ↦ absurd (let le = leb-true (size x.1) room t in omega (arith, le, more))
        | inr f ↦ sym (ap (λ b. cond b (x ∷ []) []) f)
      ]
  fitting_front room zero (x ∷ y ∷ es) len more = absurd (omega (arith, len))
  fitting_front room (suc n) (x ∷ es) len more =
      elim (cases_Bool (nat_le (size x.1) room)) [
        | inl t ↦ let le = leb-true (size x.1) room t in ap (λ ys. cond (nat_le (size x.1) room) (x ∷ ys) []) (fitting_front (room - size x.1) n es (omega (arith, len)) (omega (arith, le, more)))
        | inr f ↦ ap (λ b. cond b (x ∷ fitting size (room - size x.1) (take n es)) []) f ∙ sym (ap (λ b. cond b (x ∷ fitting size (room - size x.1) es) []) f)
      ]

  pub fitting_out : (room : ℕ) (es : List (Kept V)) (e : Kept V) → Some e ≡ slice_get es (length es - 1) → room < kept_bytes size es → fitting size room (take (length es - 1) es) ≡ fitting size room es
  fitting_out room es e at more = fitting_front room (length es - 1) es (counted es e at) more

  -- what is short enough fits whole
  pub fitting_all : (room : ℕ) (es : List (Kept V)) → kept_bytes size es ≤ room → fitting size room es ≡ es
  fitting_all room [] le = refl
  fitting_all room (x ∷ es) le =
      elim (cases_Bool (nat_le (size x.1) room)) [
        | inl t ↦ ap (λ b. cond b (x ∷ fitting size (room - size x.1) es) []) t ∙ ap (λ ys. x ∷ ys) (fitting_all (room - size x.1) es (omega (arith, le)))
        | inr f ↦ absurd (let less = leb-false (size x.1) room f in omega (arith, less, le))
      ]

  -- what holds of each block holds of those that fit
  pub all_fitting : (P : Kept V → Type 0) (room : ℕ) (es : List (Kept V)) → AllByRecursion P es → AllByRecursion P (fitting size room es)
  all_fitting P room [] all = tt
  all_fitting P room (x ∷ es) all =
      elim (cases_Bool (nat_le (size x.1) room)) [
        | inl t ↦ subst (λ b. AllByRecursion P (cond b (x ∷ fitting size (room - size x.1) es) [])) (sym t) (all.0, all_fitting P (room - size x.1) es all.1)
        | inr f ↦ subst (λ b. AllByRecursion P (cond b (x ∷ fitting size (room - size x.1) es) [])) (sym f) tt
      ]

module _ {V : Type 0} (test : Place → Bool) where
  -- what is not kept is not among those that fit
  pub absent_fitting : (size : V → ℕ) (room : ℕ) (es : List (Kept V)) → lookup test es ≡ None → lookup test (fitting size room es) ≡ None
  absent_fitting size room [] none = refl
  absent_fitting size room (x ∷ es) none = elim (cases_Bool (test x.0)) [
    | inl t ↦ absurd (let k : Some x.1 ≡ None = sym (ap (λ b. cond b (Some x.1) (lookup test es)) t) ∙ none in cc)
    | inr f ↦
        let rest : lookup test es ≡ None = sym (ap (λ b. cond b (Some x.1) (lookup test es)) f) ∙ none in
        elim (cases_Bool (nat_le (size x.1) room)) [
          | inl t ↦ ap (λ b. lookup test (cond b (x ∷ fitting size (room - size x.1) es) [])) t ∙ ap (λ b. cond b (Some x.1) (lookup test (fitting size (room - size x.1) es))) f ∙ absent_fitting size (room - size x.1) es rest
          | inr n ↦ ap (λ b. lookup test (cond b (x ∷ fitting size (room - size x.1) es) [])) n
        ]
  ]

  no_entry : (es : List (Kept V)) → lookup test es ≡ None → lookup_entry test es ≡ None
  no_entry [] none = refl
  no_entry (x ∷ es) none = elim (cases_Bool (test x.0)) [
    | inl t ↦ absurd (let k : Some x.1 ≡ None = sym (ap (λ b. cond b (Some x.1) (lookup test es)) t) ∙ none in cc)
    | inr f ↦ ap (λ b. cond b (Some x) (lookup_entry test es)) f ∙ no_entry es (sym (ap (λ b. cond b (Some x.1) (lookup test es)) f) ∙ none)
  ]

  an_entry : (es : List (Kept V)) (v : V) → lookup test es ≡ Some v → (k : Place) × (lookup_entry test es ≡ Some (k, v)) × (test k ≡ true)
  an_entry [] v some = cc
  an_entry (x ∷ es) v some = elim (cases_Bool (test x.0)) [
    | inl t ↦ let same : x.1 ≡ v = (let k : Some x.1 ≡ Some v = sym (ap (λ b. cond b (Some x.1) (lookup test es)) t) ∙ some in cc) in
        (x.0, ap (λ b. cond b (Some x) (lookup_entry test es)) t ∙ ap (λ (w : V). Some (x.0, w)) same, t)
    | inr f ↦ let ih = an_entry es v (sym (ap (λ b. cond b (Some x.1) (lookup test es)) f) ∙ some) in
        (ih.0, ap (λ b. cond b (Some x) (lookup_entry test es)) f ∙ ih.1, ih.2)
  ]

  -- where it is not kept, nothing is moved
  pub promoted_none : (es : List (Kept V)) → lookup test es ≡ None → promoted test es ≡ es
  promoted_none es none = ap (λ o. option_map_or (λ e. e ∷ remove_entry test es) o es) (no_entry es none)

  moved : (es : List (Kept V)) (k : Place) (v : V) → lookup_entry test es ≡ Some (k, v) → promoted test es ≡ (k, v) ∷ remove_entry test es
  moved es k v at = ap (λ o. option_map_or (λ e. e ∷ remove_entry test es) o es) at

  -- a block that is kept is still kept when it was moved to the front
  lookup_moved : (es : List (Kept V)) (o : Option V) → lookup test es ≡ o → lookup test (promoted test es) ≡ o
  lookup_moved es None at = ap (lookup test) (promoted_none es at) ∙ at
  lookup_moved es (Some v) at =
      let e = an_entry es v at in
      ap (lookup test) (moved es e.0 v e.1) ∙ ap (λ b. cond b (Some v) (lookup test (remove_entry test es))) e.2

  pub lookup_promoted : (es : List (Kept V)) → lookup test (promoted test es) ≡ lookup test es
  lookup_promoted es = lookup_moved es (lookup test es) refl

  bytes_removed : (size : V → ℕ) (es : List (Kept V)) (k : Place) (v : V) → lookup_entry test es ≡ Some (k, v) → size v + kept_bytes size (remove_entry test es) ≡ kept_bytes size es
  bytes_removed size [] k v at = cc
  bytes_removed size (x ∷ es) k v at = elim (cases_Bool (test x.0)) [
    | inl t ↦ let same : x ≡ (k, v) = (let h : Some x ≡ Some (k, v) = sym (ap (λ b. cond b (Some x) (lookup_entry test es)) t) ∙ at in cc) in
        ap (λ b. size v + kept_bytes size (cond b es (x ∷ remove_entry test es))) t ∙ ap (λ (y : Kept V). size y.1 + kept_bytes size es) (sym same)
    | inr f ↦ let ih = bytes_removed size es k v (sym (ap (λ b. cond b (Some x) (lookup_entry test es)) f) ∙ at) in
        ap (λ b. size v + kept_bytes size (cond b es (x ∷ remove_entry test es))) f ∙ omega (arith, ih)
  ]

  bytes_moved : (size : V → ℕ) (es : List (Kept V)) (o : Option V) → lookup test es ≡ o → kept_bytes size (promoted test es) ≡ kept_bytes size es
  bytes_moved size es None at = ap (kept_bytes size) (promoted_none es at)
  bytes_moved size es (Some v) at = let e = an_entry es v at in ap (kept_bytes size) (moved es e.0 v e.1) ∙ bytes_removed size es e.0 v e.1

  -- the blocks have as many bytes when one was moved
  pub bytes_promoted : (size : V → ℕ) (es : List (Kept V)) → kept_bytes size (promoted test es) ≡ kept_bytes size es
  bytes_promoted size es = bytes_moved size es (lookup test es) refl

  all_removed : (P : Kept V → Type 0) (es : List (Kept V)) → AllByRecursion P es → AllByRecursion P (remove_entry test es)
  all_removed P [] all = tt
  all_removed P (x ∷ es) all = elim (cases_Bool (test x.0)) [
    | inl t ↦ subst (λ b. AllByRecursion P (cond b es (x ∷ remove_entry test es))) (sym t) all.1
    | inr f ↦ subst (λ b. AllByRecursion P (cond b es (x ∷ remove_entry test es))) (sym f) (all.0, all_removed P es all.1)
  ]

  entry_holds : (P : Kept V → Type 0) (es : List (Kept V)) (e : Kept V) → lookup_entry test es ≡ Some e → AllByRecursion P es → P e
  entry_holds P [] e at all = cc
  entry_holds P (x ∷ es) e at all = elim (cases_Bool (test x.0)) [
    | inl t ↦ let same : x ≡ e = (let h : Some x ≡ Some e = sym (ap (λ b. cond b (Some x) (lookup_entry test es)) t) ∙ at in cc) in subst P same all.0
    | inr f ↦ entry_holds P es e (sym (ap (λ b. cond b (Some x) (lookup_entry test es)) f) ∙ at) all.1
  ]

  all_moved : (P : Kept V → Type 0) (es : List (Kept V)) (o : Option V) → lookup test es ≡ o → AllByRecursion P es → AllByRecursion P (promoted test es)
  all_moved P es None at all = subst (AllByRecursion P) (sym (promoted_none es at)) all
  all_moved P es (Some v) at all = let e = an_entry es v at in subst (AllByRecursion P) (sym (moved es e.0 v e.1)) (entry_holds P es (e.0, v) e.1 all, all_removed P es all)

  -- what holds of each block still does when one was moved
  pub all_promoted : (P : Kept V → Type 0) (es : List (Kept V)) → AllByRecursion P es → AllByRecursion P (promoted test es)
  all_promoted P es = all_moved P es (lookup test es) refl

-- places that the test takes for the same are
same_place : (a b : Place) → is_place a b ≡ true → a ≡ b
same_place a b same =
    let k = and_parts (nat_eq a.0 b.0) _ same in
    let l = and_parts (nat_eq a.1.0 b.1.0) (nat_eq a.1.1 b.1.1) k.1 in
    let number : a.0 ≡ b.0 = eqb-true a.0 b.0 k.0 in
    let offset : a.1.0 ≡ b.1.0 = eqb-true a.1.0 b.1.0 l.0 in
    let size : a.1.1 ≡ b.1.1 = eqb-true a.1.1 b.1.1 l.1 in
    ap (λ (n : ℕ). (n, (a.1.0, a.1.1))) number ∙ ap (λ (n : ℕ). (b.0, (n, a.1.1))) offset ∙ ap (λ (n : ℕ). (b.0, (b.1.0, n))) size

-- what a look-up finds is the most recently used then
latest_moved : {V : Type 0} (es : List (Kept V)) (place : Place) (o : Option V) → kept_at es place ≡ o → is_some o ≡ true → IsLatest (promoted (is_place place) es) place
latest_moved es place None at some = cc
latest_moved es place (Some v) at some =
    let e = an_entry (is_place place) es v at in
    subst (λ xs. IsLatest xs place) (sym (moved (is_place place) es e.0 v e.1)) (sym (same_place place e.0 e.2))

pub latest_promoted : {V : Type 0} (es : List (Kept V)) (place : Place) → is_some (kept_at es place) ≡ true → IsLatest (promoted (is_place place) es) place
latest_promoted es place some = latest_moved es place (kept_at es place) refl some

-- a block that is not kept goes first into an unbounded cache
pub put_first : {V : Type 0} (c : LruCache Place V) (place : Place) (b : V) → kept_at c.entries place ≡ None → c.cap ≡ 2 ^ 64 - 1 → length c.entries < 2 ^ 63 → put_entries is_place c place b ≡ (place, b) ∷ c.entries
put_first {V} c place b none cap few =
    ap (λ o. option_map_or (λ e. (e.0, b) ∷ remove_entry (is_place place) c.entries) o ((place, b) ∷ take (c.cap - 1) c.entries)) (no_entry (is_place place) c.entries none)
    ∙ ap (λ es. (place, b) ∷ es) (take_all (c.cap - 1) c.entries (omega (arith, cap, few)))
  where
    take_all : (n : ℕ) (xs : List (Kept V)) → length xs ≤ n → take n xs ≡ xs
    take_all zero [] le = refl
    take_all (suc n) [] le = refl
    take_all zero (x ∷ xs) le = absurd (omega (arith, le))
    take_all (suc n) (x ∷ xs) le = ap (λ ys. x ∷ ys) (take_all n xs (omega (arith, le)))

-- a look-up leaves the tables
pub looked_up_tables : {V : Type 0} (v : CacheParts V) (place : Place) (o : Option V) → (looked_up v place o).tables ≡ v.tables
looked_up_tables v place None = refl
looked_up_tables v place (Some b) = refl

-- a look-up that finds its block, and one that does not
pub looked_up_found : {V : Type 0} (v : CacheParts V) (place : Place) (o : Option V) → kept_at v.kept place ≡ o → is_some o ≡ true → record v { kept = promoted (is_place place) v.kept; hits = one_more v.hits } ≡ looked_up v place o
looked_up_found v place None at some = cc
looked_up_found v place (Some b) at some = refl

pub looked_up_missed : {V : Type 0} (v : CacheParts V) (place : Place) (o : Option V) → kept_at v.kept place ≡ o → is_some o ≡ false → record v { kept = promoted (is_place place) v.kept; misses = one_more v.misses } ≡ looked_up v place o
looked_up_missed {V} v place None at none = ap (λ (es : List (Kept V)). record v { kept = es; misses = one_more v.misses }) (promoted_none (is_place place) v.kept at)
looked_up_missed v place (Some b) at none = cc

pub ok_gives : {X E : Type 0} (r : Result X E) (P : Type 0) → is_ok r ≡ true → OnOk r P → P
ok_gives (Ok x) P is on = on
ok_gives (Err e) P is on = cc
