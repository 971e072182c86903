-- A compaction of one list among others changes no read of all.
use Rattle.std.proofs.Common.{◌≡◌, ◌≢◌, ℕ, ◌≤◌, Bool, true, false, not, cond, List, [], ◌∷◌, ◌++◌, map, Option, Some, None, refl, sym, ap, subst, ◌∙◌, inl, inr, ◌⊎◌, arith}
use Rattle.std.specs.Prelude.{IfSome, nat_lt, ◌==◌}
use Rattle.std.proofs.lemmas.Bool.{cases_Bool}
use Rattle.std.proofs.lemmas.Bool.Decides.{nat_tests}
use Rattle.std.specs.Option.{option_map}
use Rattle.std.specs.List.{AllByRecursion}
use Rattle.std.specs.Ordering.{nat_cmp, is_lt, is_eq, ordering_then}
use Rattle.std.specs.Cmp.Lexicographic.{slice_cmp}
use Rattle.std.specs.declared.cmp.Ordering.TheVariants.{Equal, Greater}
use Rattle.sstable_blocks.specs.Prelude.{Entry, plain, entries, IsOrdered, first_match, is_version, is_tombstone}
use Rattle.sstable_blocks.specs.BlockLaws.{slice_cmp-equal, and_parts, eq_is}
use Rattle.sst_merge.specs.Compact.{IsKeptRead, compacted}
use Rattle.sst_merge.specs.CompactLaws.{compact-ordered}
use Rattle.sst_merge.specs.Levels.{IsAbove, HasNone, AreWithin, is_outside}
use Rattle.sst_merge.specs.ManyLaws.{above_match, still_or_gone, IsStillOrGone}
use Rattle.sst_sources.specs.Merge.{merged, lesser, least_match, entry_cmp}
use Rattle.sst_merge.specs.ReadLaws.{merged_match}
use Rattle.sst_merge.specs.Snapshot.{seen}
use Rattle.sst_sources.specs.ListLaws.{first, first_hit, first_miss}

-- what holds of all holds of the first that passes
first_has : (test : Entry → Bool) (P : Entry → Type 0) (xs : List Entry) → AllByRecursion P xs → IfSome (first test xs) (λ e. P e × (test e ≡ true))
first_has test P [] all = tt
first_has test P (x ∷ xs) all = elim (cases_Bool (test x)) [
  | inl hit ↦ subst (λ o. IfSome o (λ e. P e × (test e ≡ true))) (sym (first_hit test x xs hit)) (all.0, hit)
  | inr miss ↦ subst (λ o. IfSome o (λ e. P e × (test e ≡ true))) (sym (first_miss test x xs miss)) (first_has test P xs all.1)
]

not_less : (m n : ℕ) → n ≤ m → is_lt (nat_cmp m n) ≡ false
not_less m n h = elim (cases_Bool (nat_lt m n)) [
  | inl less ↦ absurd (let f : true ≡ false = grind (arith, nat_tests) in cc)
  | inr more ↦ rw more (elim (m == n) as (λ t. is_lt (cond t Equal Greater) ≡ false) [ true ↦ refl | false ↦ refl ])
]

module _ (needle : List ℕ) (r : ℕ) where
  abbrev test : Entry → Bool
  test = is_version entries needle r

  key_is : (e : Entry) → test e ≡ true → e.key.user_key ≡ needle
  key_is e h = (slice_cmp-equal e.key.user_key needle).0 (eq_is (slice_cmp nat_cmp e.key.user_key needle) (and_parts (nat_lt e.key.seqno r) (is_eq (slice_cmp nat_cmp e.key.user_key needle)) h).1)

  passed : (e : Entry) → e.key.user_key ≢ needle → test e ≡ false
  passed e other = elim (cases_Bool (test e)) [
    | inl hit ↦ absurd (other (key_is e hit))
    | inr miss ↦ miss
  ]

  none_first : (xs : List Entry) → HasNone needle xs → first test xs ≡ None
  none_first [] h = refl
  none_first (x ∷ xs) h = first_miss test x xs (passed x h.0) ∙ none_first xs h.1

  no_match : (xs : List Entry) → HasNone needle xs → first_match entries needle r xs ≡ None
  unfolding first_match
  no_match xs h = ap (option_map plain) (none_first xs h)

  -- a first match of a newer list does not sort after that of an older
  in_turn : (y x : Entry) → (y.key.user_key ≡ x.key.user_key → x.key.seqno ≤ y.key.seqno) → test y ≡ true → test x ≡ true → is_lt (entry_cmp x y) ≡ false
  in_turn y x newer hy hx =
      let same : x.key.user_key ≡ y.key.user_key = key_is x hx ∙ sym (key_is y hy) in
      ap (λ o. is_lt (ordering_then o (nat_cmp y.key.seqno x.key.seqno))) ((slice_cmp-equal x.key.user_key y.key.user_key).1 same) ∙ not_less y.key.seqno x.key.seqno (newer (sym same))

  abbrev NotAfter : Option Entry → Option Entry → Type 0
  NotAfter x y = IfSome x (λ x. IfSome y (λ y. is_lt (entry_cmp x y) ≡ false))

  under : (x y : Option Entry) → NotAfter x y → NotAfter (option_map plain x) (option_map plain y)
  under None y h = tt
  under (Some x) None h = tt
  under (Some x) (Some y) h = h

  turn_by : (items : List Entry) (x y : Option Entry) → IfSome y (λ y. IfSome x (λ x. (y.key.user_key ≡ x.key.user_key → x.key.seqno ≤ y.key.seqno) × (test x ≡ true)) × (test y ≡ true)) → NotAfter x y
  turn_by items None y h = tt
  turn_by items (Some x) None h = tt
  turn_by items (Some x) (Some y) h = in_turn y x h.0.0 h.1 h.0.1

  over : (P Q : Entry → Type 0) (o : Option Entry) → ((e : Entry) → P e → Q e) → IfSome o P → IfSome o Q
  over P Q None f h = tt
  over P Q (Some e) f h = f e h

  not_after : (newer items : List Entry) → IsAbove newer items → NotAfter (first_match entries needle r items) (first_match entries needle r newer)
  unfolding first_match
  not_after newer items above =
      let x = first test items in
      let y = first test newer in
      let Newer = λ (y x : Entry). y.key.user_key ≡ x.key.user_key → x.key.seqno ≤ y.key.seqno in
      let found = first_has test (λ y. AllByRecursion (Newer y) items) newer above in
      under x y (turn_by items x y (over (λ y. AllByRecursion (Newer y) items × (test y ≡ true)) (λ y. IfSome x (λ x. Newer y x × (test x ≡ true)) × (test y ≡ true)) y (λ y h. (first_has test (Newer y) items h.0, h.1)) found))

  abbrev found_in : List Entry → Option Entry
  found_in xs = first_match entries needle r xs

  -- the lesser of two matches that do not sort before x does not sort before it
  lesser_after : (a b : Option Entry) (x : Entry) → NotAfter a (Some x) → NotAfter b (Some x) → NotAfter (lesser entry_cmp a b) (Some x)
  lesser_after None b x h k = k
  lesser_after (Some a) None x h k = h
  lesser_after (Some a) (Some b) x h k = elim (is_lt (entry_cmp b a)) as (λ t. NotAfter (cond t (Some b) (Some a)) (Some x)) [ true ↦ k | false ↦ h ]

  first_stays : (x : Entry) (b : Option Entry) → NotAfter b (Some x) → lesser entry_cmp (Some x) b ≡ Some x
  first_stays x None h = refl
  first_stays x (Some b) h = ap (λ t. cond t (Some b) (Some x)) h

  older_after : (newer : List Entry) (x : Entry) → found_in newer ≡ Some x → (older : List (List Entry)) → AllByRecursion (IsAbove newer) older → NotAfter (least_match entry_cmp (map found_in older)) (Some x)
  older_after newer x is [] all = tt
  older_after newer x is (items ∷ older) all =
      lesser_after (found_in items) (least_match entry_cmp (map found_in older)) x (subst (NotAfter (found_in items)) is (not_after newer items all.0)) (older_after newer x is older all.1)

  -- what a level has is what all levels from there on have
  pub level_match : (newer : List Entry) (older : List (List Entry)) (x : Entry) → AllByRecursion (IsAbove newer) older → found_in newer ≡ Some x → least_match entry_cmp (map found_in (newer ∷ older)) ≡ Some x
  level_match newer older x all is =
      ap (λ o. lesser entry_cmp o (least_match entry_cmp (map found_in older))) is ∙ first_stays x (least_match entry_cmp (map found_in older)) (older_after newer x is older all)

  -- the least of the first matches of newer lists and of another
  abbrev chain : List (List Entry) → Option Entry → Option Entry
  chain [] t = t
  chain (n ∷ ns) t = lesser entry_cmp (found_in n) (chain ns t)

  split : (ns : List (List Entry)) (xs : List Entry) (os : List (List Entry)) → least_match entry_cmp (map found_in (ns ++ xs ∷ os)) ≡ chain ns (lesser entry_cmp (found_in xs) (least_match entry_cmp (map found_in os)))
  split [] xs os = refl
  split (n ∷ ns) xs os = ap (lesser entry_cmp (found_in n)) (split ns xs os)

  none_least : (os : List (List Entry)) → AllByRecursion (HasNone needle) os → least_match entry_cmp (map found_in os) ≡ None
  none_least [] all = refl
  none_least (o ∷ os) all = ap (λ a. lesser entry_cmp a (least_match entry_cmp (map found_in os))) (no_match o all.0) ∙ none_least os all.1

  abbrev IsBoth : Entry → Option Entry → Option Entry → Type 0
  IsBoth t a b = (a ≡ b) ⊎ ((a ≡ None) × (b ≡ Some t))

  -- a step of the chain
  step : (t : Entry) (n a b : Option Entry) → NotAfter (Some t) n → IsBoth t a b → IsBoth t (lesser entry_cmp n a) (lesser entry_cmp n b)
  step t n a b h (inl same) = inl (ap (lesser entry_cmp n) same)
  step t None a b h (inr gone) = inr gone
  step t (Some y) a b h (inr gone) = inl (ap (lesser entry_cmp (Some y)) gone.0 ∙ sym (ap (lesser entry_cmp (Some y)) gone.1 ∙ ap (λ l. cond l (Some t) (Some y)) h))

  chain_gone : (t : Entry) (ns : List (List Entry)) → AllByRecursion (λ n. NotAfter (Some t) (found_in n)) ns → IsBoth t (chain ns None) (chain ns (Some t))
  chain_gone t [] all = inr (refl, refl)
  chain_gone t (n ∷ ns) all = step t (found_in n) (chain ns None) (chain ns (Some t)) all.0 (chain_gone t ns all.1)

  all_not_after : (items : List Entry) (t : Entry) → found_in items ≡ Some t → (ns : List (List Entry)) → AllByRecursion (λ n. IsAbove n items) ns → AllByRecursion (λ n. NotAfter (Some t) (found_in n)) ns
  all_not_after items t is [] all = tt
  all_not_after items t is (n ∷ ns) all = (subst (λ o. NotAfter o (found_in n)) is (not_after n items all.0), all_not_after items t is ns all.1)

  seen_both : (t : Entry) (a b : Option Entry) → is_tombstone t.key.value_type ≡ true → IsBoth t a b → seen a ≡ seen b
  seen_both t a b d (inl same) = ap seen same
  seen_both t a b d (inr gone) = ap seen gone.0 ∙ sym (ap seen gone.1 ∙ ap (λ c. cond c None (Some t)) d)

  module _ (ss : List ℕ) (bottom : List ℕ → Bool) where
    abbrev left : List Entry → List Entry
    left items = compacted (λ (e : Entry). e) ss bottom items

    put : (ns : List (List Entry)) (xs ys : List Entry) (os : List (List Entry)) → (IsOrdered entries xs → IsOrdered entries ys) → AllByRecursion (IsOrdered entries) (ns ++ xs ∷ os) → AllByRecursion (IsOrdered entries) (ns ++ ys ∷ os)
    put [] xs ys os f all = (f all.0, all.1)
    put (n ∷ ns) xs ys os f all = (all.0, put ns xs ys os f all.1)

    the_one : (ns : List (List Entry)) (xs : List Entry) (os : List (List Entry)) → AllByRecursion (IsOrdered entries) (ns ++ xs ∷ os) → IsOrdered entries xs
    the_one [] xs os all = all.0
    the_one (n ∷ ns) xs os all = the_one ns xs os all.1

    abbrev rest : List (List Entry) → Option Entry
    rest os = least_match entry_cmp (map found_in os)

    chained : (ns : List (List Entry)) (xs : List Entry) (os : List (List Entry)) → AllByRecursion (IsOrdered entries) (ns ++ xs ∷ os) → found_in (merged entry_cmp (ns ++ xs ∷ os)) ≡ chain ns (lesser entry_cmp (found_in xs) (rest os))
    chained ns xs os all = merged_match needle r (ns ++ xs ∷ os) all ∙ split ns xs os

    ordered : (ns : List (List Entry)) (items : List Entry) (os : List (List Entry)) → AllByRecursion (IsOrdered entries) (ns ++ items ∷ os) → AllByRecursion (IsOrdered entries) (ns ++ left items ∷ os)
    ordered ns items os all = put ns items (left items) os (compact-ordered (λ (e : Entry). e) ss bottom items) all

    -- where the key is not at the bottom, the first match of all stays
    pub levels_above : (ns : List (List Entry)) (items : List Entry) (os : List (List Entry)) → IsKeptRead ss r → AllByRecursion (IsOrdered entries) (ns ++ items ∷ os) → bottom needle ≡ false
        → found_in (merged entry_cmp (ns ++ left items ∷ os)) ≡ found_in (merged entry_cmp (ns ++ items ∷ os))
    levels_above ns items os read all h =
        chained ns (left items) os (ordered ns items os all)
        ∙ ap (λ a. chain ns (lesser entry_cmp a (rest os))) (above_match ss bottom needle r items read (the_one ns items os all) h)
        ∙ sym (chained ns items os all)

    by_kind : (ns : List (List Entry)) (items : List Entry) (os : List (List Entry)) → AllByRecursion (λ n. IsAbove n items) ns → (bottom needle ≡ true → AllByRecursion (HasNone needle) os)
        → IsStillOrGone (bottom needle) (found_in (left items)) (found_in items)
        → seen (chain ns (lesser entry_cmp (found_in (left items)) (rest os))) ≡ seen (chain ns (lesser entry_cmp (found_in items) (rest os)))
    by_kind ns items os above none (inl same) = ap (λ a. seen (chain ns (lesser entry_cmp a (rest os)))) same
    by_kind ns items os above none (inr gone) =
        let empty : rest os ≡ None = none_least os (none gone.1.3) in
        let t = gone.1.0 in
        let a : chain ns (lesser entry_cmp (found_in (left items)) (rest os)) ≡ chain ns None = ap (λ o. chain ns (lesser entry_cmp o (rest os))) gone.0 ∙ ap (chain ns) empty in
        let b : chain ns (lesser entry_cmp (found_in items) (rest os)) ≡ chain ns (Some t) = ap (λ o. chain ns (lesser entry_cmp o (rest os))) gone.1.1 ∙ ap (λ o. chain ns (lesser entry_cmp (Some t) o)) empty in
        ap seen a ∙ seen_both t (chain ns None) (chain ns (Some t)) gone.1.2 (chain_gone t ns (all_not_after items t gone.1.1 ns above)) ∙ sym (ap seen b)

    -- a reader of all sees the same
    pub levels_seen : (ns : List (List Entry)) (items : List Entry) (os : List (List Entry)) → IsKeptRead ss r → AllByRecursion (IsOrdered entries) (ns ++ items ∷ os)
        → AllByRecursion (λ n. IsAbove n items) ns → (bottom needle ≡ true → AllByRecursion (HasNone needle) os)
        → seen (found_in (merged entry_cmp (ns ++ left items ∷ os))) ≡ seen (found_in (merged entry_cmp (ns ++ items ∷ os)))
    levels_seen ns items os read all above none =
        ap seen (chained ns (left items) os (ordered ns items os all))
        ∙ by_kind ns items os above none (still_or_gone ss bottom needle r items read (the_one ns items os all))
        ∙ sym (ap seen (chained ns items os all))

-- a list whose keys are in ranges has none outside
pub outside_none : (ranges : List (List ℕ × List ℕ)) (needle : List ℕ) (items : List Entry) → AreWithin ranges items → is_outside ranges needle ≡ true → HasNone needle items
outside_none ranges needle [] within out = tt
outside_none ranges needle (x ∷ xs) within out = (
  λ same. let f : true ≡ false = sym out ∙ ap (λ k. is_outside ranges k) (sym same) ∙ ap not within.0 in absurd (cc),
  outside_none ranges needle xs within.1 out,
)
