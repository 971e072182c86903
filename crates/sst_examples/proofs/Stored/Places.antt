-- Versions in memory.
use Rattle.std.proofs.Common.{◌≡◌, ℕ, zero, suc, ◌<◌, ◌≤◌, true, false, cond, List, [], ◌∷◌, ◌++◌, length, take, drop, get_or, filter, slice_get, Option, Some, None, refl, sym, ap, subst, ◌∙◌, arith}
use Rattle.std.proofs.Math.Seq.{drop-cons}
use Rattle.std.proofs.lemmas.List.{drop_all}
use Rattle.std.specs.List.{AllByRecursion}
use Rattle.std.specs.Option.{option_map}
use Rattle.sstable_blocks.specs.Prelude.{Entry, plain, entries, first_match, is_version}
use Rattle.sst_sources.specs.Merge.{entry_cmp, merge}

-- what holds of all holds of the member at an index
pub all_at : {X : Type 0} (P : X → Type 0) (xs : List X) (i : ℕ) (x : X) → AllByRecursion P xs → i < length xs → x ≡ get_or xs i x → P x
all_at P [] i x all inside is = absurd (omega arith)
all_at P (y ∷ ys) zero x all inside is = subst P (sym is) all.0
all_at P (y ∷ ys) (suc i) x all inside is = all_at P ys i x all.1 (omega arith) is

module _ (e : Entry) where
  -- a list, with the version merged into what is at an index and after it
  abbrev pub placed : List Entry → ℕ → List Entry
  placed xs i = take i xs ++ merge entry_cmp (e ∷ []) (drop i xs)

module _ (needle : List ℕ) (s : ℕ) where
  first_by : (x : Entry) (xs : List Entry) → first_match entries needle s (x ∷ xs) ≡ cond (is_version entries needle s x) (Some (plain x)) (first_match entries needle s xs)
  unfolding first_match
  first_by x xs =
      let rest = filter (is_version entries needle s) xs in
      elim (is_version entries needle s x) as (λ t. option_map plain (slice_get (cond t (x ∷ rest) rest) 0) ≡ cond t (Some (plain x)) (option_map plain (slice_get rest 0))) [ true ↦ refl | false ↦ refl ]

  at : (xs : List Entry) (i : ℕ) (held : Entry) → i < length xs → held ≡ get_or xs i held → first_match entries needle s (drop i xs) ≡ cond (is_version entries needle s held) (Some (plain held)) (first_match entries needle s (drop (suc i) xs))
  at xs i held inside is =
      ap (first_match entries needle s) (drop-cons xs i held inside ∙ ap (λ x. x ∷ drop (suc i) xs) (sym is)) ∙ first_by held (drop (suc i) xs)

  -- past a version that is passed over
  pub found_later : (xs : List Entry) (i j : ℕ) (held : Entry) (found : Option Entry) → found ≡ first_match entries needle s (drop i xs) → i < length xs → held ≡ get_or xs i held → is_version entries needle s held ≡ false → j ≡ suc i → found ≡ first_match entries needle s (drop j xs)
  found_later xs i j held found so_far inside is miss next =
      so_far ∙ at xs i held inside is ∙ ap (λ t. cond t (Some (plain held)) (first_match entries needle s (drop (suc i) xs))) miss ∙ sym (ap (λ k. first_match entries needle s (drop k xs)) next)

  -- the first that is not
  pub found_here : (xs : List Entry) (i : ℕ) (held : Entry) (found : Option Entry) → found ≡ first_match entries needle s (drop i xs) → i < length xs → held ≡ get_or xs i held → is_version entries needle s held ≡ true → found ≡ Some (plain held)
  found_here xs i held found so_far inside is hit = so_far ∙ at xs i held inside is ∙ ap (λ t. cond t (Some (plain held)) (first_match entries needle s (drop (suc i) xs))) hit

  nothing : first_match entries needle s [] ≡ None
  unfolding first_match
  nothing = refl

  -- or none
  pub found_none : (xs : List Entry) (i : ℕ) (found : Option Entry) → found ≡ first_match entries needle s (drop i xs) → length xs ≤ i → found ≡ None
  found_none xs i found so_far end = so_far ∙ ap (first_match entries needle s) (drop_all i xs end) ∙ nothing
