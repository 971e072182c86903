-- Laws of reads over several readers.
use Rattle.std.proofs.Common.{◌≡◌, ℕ, zero, suc, ◌+◌, ◌-◌, ◌<◌, List, [], ◌∷◌, length, map, drop, get_or, Option, Some, None, refl, sym, ap, subst, ◌∙◌, arith, inl, inr, ◌≤◌, is_some}
use Rattle.std.specs.Prelude.{IfSome, if◌then◌else◌, ◌==◌}
use Rattle.std.proofs.lemmas.Bool.{cases_Bool}
use Rattle.std.proofs.lemmas.Bool.Decides.{nat_tests}
use Rattle.std.specs.List.{AllByRecursion}
use Rattle.std.proofs.Math.ListN.{set}
use Rattle.std.proofs.Math.Seq.{map-set_same}
use Rattle.std.proofs.lemmas.List.{drop_all, drop_more, drop-drop, drop-set-lt, get_or-map, length-map}
use Rattle.sstable_blocks.specs.Prelude.{Entry, entries, IsOrdered, first_match}
use Rattle.sst_merge.specs.Counts.{OneFails}
use Rattle.sst_merge.specs.LevelLaws.{level_match}
use Rattle.sst_merge.specs.Levels.{AreLevels, IsAbove, asked}
use Rattle.sst_sources.specs.Merge.{entry_cmp, lesser, least_match, merged}
use Rattle.sst_sources.specs.Picks.{list_at, from_here}
use Rattle.sst_merge.specs.ReadLaws.{merged_match}
use Rattle.sst_sources.specs.SourceLaws.{known_at, known_length, known_split}
use Rattle.sst_sources.specs.Sources.{all_known}

-- what is read of lists
abbrev pub matches : List ℕ → ℕ → List (List Entry) → Option Entry
matches needle s lists = least_match entry_cmp (map (first_match entries needle s) lists)

module _ {R : Type 0} (list : R → Option (List Entry)) (needle : List ℕ) (s : ℕ) where
  -- before any reader is read
  pub none_read : (rs : List R) (lists : List (List Entry)) → all_known (map list rs) ≡ Some lists → None ≡ matches needle s (drop (length rs) lists)
  none_read rs lists known =
      let n : length lists ≡ length rs = known_length (map list rs) lists known ∙ length-map rs list in
      sym (ap (matches needle s) (drop_all (length rs) lists (omega (arith, n))))

  -- what the reader at an index gave
  pub match_at : (rs : List R) (lists : List (List Entry)) (j : ℕ) (x : R) (found : Option Entry) → all_known (map list rs) ≡ Some lists → j < length rs → x ≡ get_or rs j x
      → IfSome (list x) (λ all. found ≡ first_match entries needle s all) → found ≡ first_match entries needle s (list_at lists j)
  match_at rs lists j x found known inside is here =
      let m : length (map list rs) ≡ length rs = length-map rs list in
      let there : list x ≡ Some (list_at lists j) = ap list is ∙ sym (get_or-map list rs j x (list x) inside) ∙ known_at (map list rs) lists j (list x) known (omega (arith, m, inside)) in
      subst (λ o. IfSome o (λ all. found ≡ first_match entries needle s all)) there here

  -- one reader more
  pub read_more : (rs : List R) (lists : List (List Entry)) (j i : ℕ) (x : R) (found best new : Option Entry) → all_known (map list rs) ≡ Some lists → j < length rs → j + 1 ≡ i → x ≡ get_or rs j x
      → IfSome (list x) (λ all. found ≡ first_match entries needle s all) → best ≡ matches needle s (drop i lists) → new ≡ lesser entry_cmp found best → new ≡ matches needle s (drop j lists)
  read_more rs lists j i x found best new known inside next is here rest step =
      let m : length (map list rs) ≡ length rs = length-map rs list in
      let n : length lists ≡ length rs = known_length (map list rs) lists known ∙ m in
      let match_here : found ≡ first_match entries needle s (list_at lists j) = match_at rs lists j x found known inside is here in
      step ∙ ap (λ o. lesser entry_cmp o best) match_here ∙ ap (lesser entry_cmp (first_match entries needle s (list_at lists j))) rest
      ∙ sym (ap (matches needle s) (from_here lists j i (omega (arith, n, inside)) next))

  -- a read leaves the lists of all readers
  pub kept_more : (rs : List R) (j : ℕ) (x new : R) (old : List (Option (List Entry))) → map list rs ≡ old → x ≡ get_or rs j x → list new ≡ list x → map list (set rs j new) ≡ old
  kept_more rs j x new old is here same = map-set_same list rs j new x (same ∙ ap list here) ∙ is

  ordered_by : (r : R) (o : Option (List Entry)) (rest : List (Option (List Entry))) (lists : List (List Entry)) → list r ≡ o → IfSome (list r) (IsOrdered entries) → all_known (o ∷ rest) ≡ Some lists
      → ((others : List (List Entry)) → all_known rest ≡ Some others → AllByRecursion (IsOrdered entries) others) → AllByRecursion (IsOrdered entries) lists
  ordered_by r None rest lists e up known go = absurd (cc)
  ordered_by r (Some xs) rest lists e up known go =
      let k = known_split xs (all_known rest) lists known in
      subst (AllByRecursion (IsOrdered entries)) (sym k.is) (subst (λ o. IfSome o (IsOrdered entries)) e up, go k.rest k.known)

  all_ordered : ((r : R) → IfSome (list r) (IsOrdered entries)) → (rs : List R) (lists : List (List Entry)) → all_known (map list rs) ≡ Some lists → AllByRecursion (IsOrdered entries) lists
  all_ordered up [] lists known = let e : [] ≡ lists = cc in subst (AllByRecursion (IsOrdered entries)) e tt
  all_ordered up (r ∷ rs) lists known = ordered_by r (list r) (map list rs) lists refl (up r) known (all_ordered up rs)

  -- what is read of all readers is the first match of their merge
  pub read_is_merge : ((r : R) → IfSome (list r) (IsOrdered entries)) → (rs : List R) (lists : List (List Entry)) (best : Option Entry) → all_known (map list rs) ≡ Some lists → best ≡ matches needle s lists
      → best ≡ first_match entries needle s (merged entry_cmp lists)
  read_is_merge up rs lists best known e = e ∙ sym (merged_match needle s lists (all_ordered up rs lists known))

module _ (needle : List ℕ) (s : ℕ) where
  abbrev IsMissed : List (List Entry) → ℕ → Type 0
  IsMissed lists i = (k : ℕ) → k < i → first_match entries needle s (list_at lists k) ≡ None

  -- lists without a match
  skipped : (lists : List (List Entry)) (i : ℕ) → i ≤ length lists → IsMissed lists i → matches needle s lists ≡ matches needle s (drop i lists)
  skipped lists zero inside none = refl
  skipped [] (suc i) inside none = absurd (omega arith)
  skipped (xs ∷ lists) (suc i) inside none =
      ap (λ a. lesser entry_cmp a (matches needle s lists)) (none zero (omega arith)) ∙ skipped lists i (omega arith) (λ k less. none (suc k) (omega (arith, less)))

  older_of : (lists : List (List Entry)) (i : ℕ) → i < length lists → AreLevels lists → AllByRecursion (IsAbove (list_at lists i)) (drop (i + 1) lists)
  older_of [] i inside levels = absurd (omega arith)
  older_of (xs ∷ lists) zero inside levels = levels.0
  older_of (xs ∷ lists) (suc i) inside levels =
      let e : suc (i + 1) ≡ suc i + 1 = omega arith in
      subst (λ n. AllByRecursion (IsAbove (list_at lists i)) (drop n (xs ∷ lists))) e (older_of lists i (omega arith) levels.1)

  -- the first match of levels is that of the first with a match
  pub level_found : (lists : List (List Entry)) (i : ℕ) (x : Entry) → AreLevels lists → i < length lists → IsMissed lists i → first_match entries needle s (list_at lists i) ≡ Some x → matches needle s lists ≡ Some x
  level_found lists i x levels inside none is =
      skipped lists i (omega (arith, inside)) none ∙ ap (matches needle s) (from_here lists i (i + 1) inside refl)
      ∙ level_match needle s (list_at lists i) (drop (i + 1) lists) x (older_of lists i inside levels) is

  pub none_found : (lists : List (List Entry)) (i : ℕ) → length lists ≤ i → IsMissed lists i → matches needle s lists ≡ None
  none_found lists i all none =
      skipped lists (length lists) (omega arith) (λ k less. none k (omega (arith, less, all))) ∙ ap (matches needle s) (drop_all (length lists) lists (omega arith))

  -- readers before which none has a match are asked
  pub asked_least : (lists : List (List Entry)) (i : ℕ) → i ≤ length lists → IsMissed lists i → i ≤ asked needle s lists
  asked_least lists zero inside none = omega arith
  asked_least [] (suc i) inside none = absurd (omega arith)
  asked_least (xs ∷ lists) (suc i) inside none =
      let k : i ≤ asked needle s lists = asked_least lists i (omega arith) (λ k less. none (suc k) (omega (arith, less))) in
      let here : asked needle s (xs ∷ lists) ≡ 1 + asked needle s lists = ap (λ o. 1 + (if is_some o then 0 else asked needle s lists)) (none zero (omega arith)) in
      omega (arith, k, here)

  -- where a reader is asked, one more than those before it is
  pub asked_here : (lists : List (List Entry)) (i : ℕ) → i < length lists → IsMissed lists i → i + 1 ≤ asked needle s lists
  asked_here [] i inside none = absurd (omega arith)
  asked_here (xs ∷ lists) zero inside none = omega arith
  asked_here (xs ∷ lists) (suc i) inside none =
      let k : i + 1 ≤ asked needle s lists = asked_here lists i (omega arith) (λ k less. none (suc k) (omega (arith, less))) in
      let here : asked needle s (xs ∷ lists) ≡ 1 + asked needle s lists = ap (λ o. 1 + (if is_some o then 0 else asked needle s lists)) (none zero (omega arith)) in
      omega (arith, k, here)

  -- one list more without a match
  pub missed_more : (lists : List (List Entry)) (i : ℕ) → IsMissed lists i → first_match entries needle s (list_at lists i) ≡ None → IsMissed lists (i + 1)
  missed_more lists i none here k less = elim (cases_Bool (k == i)) [
    | inl same ↦ ap (λ n. first_match entries needle s (list_at lists n)) (grind (arith, nat_tests)) ∙ here
    | inr other ↦ none k (grind (arith, nat_tests))
  ]

pub known_count : {R : Type 0} (list : R → Option (List Entry)) (rs : List R) (lists : List (List Entry)) → all_known (map list rs) ≡ Some lists → length lists ≡ length rs
known_count list rs lists known = known_length (map list rs) lists known ∙ length-map rs list

-- what is after an index is after a later one
pub later : {R : Type 0} (rs all : List R) (i n : ℕ) → i ≤ n → drop i rs ≡ drop i all → drop n rs ≡ drop n all
later rs all i n less same =
    let e : i + (n - i) ≡ n = omega (arith, less) in
    ap (λ k. drop k rs) (sym e) ∙ sym (drop-drop (n - i) i rs) ∙ ap (drop (n - i)) same ∙ drop-drop (n - i) i all ∙ ap (λ k. drop k all) e

-- the readers after one that was read are the same
pub behind_more : {R : Type 0} (rs all : List R) (i n : ℕ) (new : R) → i < n → drop i rs ≡ drop i all → drop n (set rs i new) ≡ drop n all
behind_more rs all i n new less same =
    drop-set-lt n rs i new less ∙ later rs all i n (omega (arith, less)) same

pub same_here : {R : Type 0} (rs all : List R) (i : ℕ) (x : R) → i < length rs → i < length all → drop i rs ≡ drop i all → x ≡ get_or rs i x → x ≡ get_or all i x
same_here rs all i x a b same is =
    let e : get_or rs i x ∷ drop (i + 1) rs ≡ get_or all i x ∷ drop (i + 1) all = sym (drop_more rs i x a) ∙ same ∙ drop_more all i x b in
    let f : get_or rs i x ≡ get_or all i x = cc in
    is ∙ f

-- where a read of the reader at an index fails so, one of all does
pub one_fails : {R : Type 0} (fails : R → Type 0) (readers : List R) (i : ℕ) (r : R) → i < length readers → r ≡ get_or readers i r → fails r → OneFails fails readers
one_fails fails [] i r inside is h = absurd (omega arith)
one_fails fails (x ∷ readers) zero r inside is h = inl (subst fails is h)
one_fails fails (x ∷ readers) (suc i) r inside is h = inr (one_fails fails readers i r (omega arith) is h)
