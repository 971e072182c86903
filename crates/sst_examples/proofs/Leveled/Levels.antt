-- What the calls of a store do to its levels.
use Rattle.std.proofs.Common.{◌≡◌, ◌≢◌, ℕ, ◌+◌, ◌<◌, ◌≤◌, Bool, true, false, cond, List, [], ◌∷◌, map, Option, Some, None, refl, sym, ap, subst, ◌∙◌, inl, inr, arith}
use Rattle.std.proofs.lemmas.Bool.{cases_Bool}
use Rattle.std.proofs.lemmas.Bool.Decides.{nat_tests}
use Rattle.std.specs.Cmp.Lexicographic.{slice_cmp}
use Rattle.std.specs.Option.{option_map}
use Rattle.std.specs.Ordering.{nat_cmp, is_eq}
use Rattle.std.specs.Prelude.{nat_lt, ◌&&◌}
use Rattle.sstable_blocks.specs.Prelude.{Entry, plain, plain_value, entries, IsOrdered, first_match, is_version}
use Rattle.sstable_blocks.specs.BlockLaws.{slice_cmp-equal}
use Rattle.sstable_blocks.specs.ValueTypes.{ValueType}
use Rattle.sst_merge.specs.Compact.{IsKeptRead, compacted}
use Rattle.sst_sources.specs.Merge.{entry_cmp, merge, merged}
use Rattle.sst_sources.specs.MergeLaws.{merge-nil}
use Rattle.sst_merge.specs.ReadLaws.{merge_order}
use Rattle.sstable_blocks.specs.BoundLaws.{plain_ordered}
use Rattle.sst_merge.specs.Snapshot.{seen}
use Rattle.sst_sources.specs.Sources.{all_known, before}
use Rattle.sst_examples.specs.Levels.{AreBelow, AreLevels, ArePlain, IsVersionWritten, Levels, levels, or_none, version, versions}
use Rattle.sst_examples.specs.Tables.{HoldsEntries, MemoryTable, merged_tables, table_entries}
use Rattle.sst_sources.specs.MergeLaws.{all_merge}
use Rattle.sst_sources.specs.RangeLaws.{version_key}
use Rattle.sst_examples.proofs.Leveled.Newer.{all_compact, all_plain, all_weaker, newer_read, one_read, or_older, or_older_both}

-- all versions in order
abbrev all_versions : List Entry → Option (List Entry) → List Entry
all_versions memory tables = merge entry_cmp memory (or_none tables)

module _ (memory : List Entry) (tables : Option (List Entry)) (next : ℕ) (are : AreLevels memory tables next) where
  -- a read finds the first version in memory, else that of the tables
  pub level_read : (needle : List ℕ) (s : ℕ) → first_match entries needle s (all_versions memory tables) ≡ or_older (first_match entries needle s memory) (first_match entries needle s (or_none tables))
  level_read needle s =
      ap (λ o. first_match entries needle s (all_versions memory o)) are.known
      ∙ newer_read needle s memory are.older are.memory_ordered are.older_ordered are.newer
      ∙ sym (ap (λ o. or_older (first_match entries needle s memory) (first_match entries needle s (or_none o))) are.known)

  -- a version is added under the next number
  module _ (e : Entry) (number : e.key.seqno ≡ next) (is_plain : plain e ≡ e) where
    newest : AreBelow e.key.seqno memory
    newest = subst (λ n. AreBelow n memory) (sym number) are.memory_below

    newest_of_all : AreBelow e.key.seqno are.older
    newest_of_all = subst (λ n. AreBelow n are.older) (sym number) are.older_below

    up_to_next : (items : List Entry) → AreBelow next items → AreBelow (next + 1) items
    up_to_next items below = all_weaker (λ (x : Entry). x.key.seqno < next) (λ (x : Entry). x.key.seqno < next + 1) items (λ x h. omega (arith, h)) below

    pub level_added : AreLevels (merge entry_cmp (e ∷ []) memory) tables (next + 1)
    level_added = record {
      memory_ordered = merge_order (e ∷ []) memory tt are.memory_ordered;
      memory_plain = all_merge entry_cmp (λ (x : Entry). plain x ≡ x) (e ∷ []) memory (is_plain, tt) are.memory_plain;
      memory_below = all_merge entry_cmp (λ (x : Entry). x.key.seqno < next + 1) (e ∷ []) memory (omega (arith, number), tt) (up_to_next memory are.memory_below);
      older = are.older;
      known = are.known;
      older_ordered = are.older_ordered;
      older_below = up_to_next are.older are.older_below;
      newer = all_merge entry_cmp (λ (x : Entry). AreBelow x.key.seqno are.older) (e ∷ []) memory (newest_of_all, tt) are.newer;
    }

    added_read : (needle : List ℕ) (s : ℕ) → first_match entries needle s (all_versions (merge entry_cmp (e ∷ []) memory) tables) ≡ or_older (first_match entries needle s (e ∷ [])) (first_match entries needle s (all_versions memory tables))
    unfolding level_added
    added_read needle s =
        let older = are.older in
        let one = first_match entries needle s (e ∷ []) in
        let inner = first_match entries needle s memory in
        let outer = first_match entries needle s older in
        ap (λ o. first_match entries needle s (all_versions (merge entry_cmp (e ∷ []) memory) o)) are.known
        ∙ newer_read needle s (merge entry_cmp (e ∷ []) memory) older level_added.memory_ordered are.older_ordered level_added.newer
        ∙ ap (λ o. or_older o outer) (newer_read needle s (e ∷ []) memory tt are.memory_ordered (newest, tt))
        ∙ or_older_both one inner outer
        ∙ ap (or_older one) (sym (newer_read needle s memory older are.memory_ordered are.older_ordered are.newer))
        ∙ sym (ap (λ o. or_older one (first_match entries needle s (all_versions memory o))) are.known)

    seen_by : (t : Bool) (o : Option Entry) → seen (or_older (cond t (Some (plain e)) None) o) ≡ cond t (seen (Some e)) (seen o)
    seen_by true o = ap (λ x. seen (Some x)) is_plain
    seen_by false o = refl

    shown : (needle : List ℕ) (s : ℕ) → seen (first_match entries needle s (all_versions (merge entry_cmp (e ∷ []) memory) tables)) ≡ cond (is_version entries needle s e) (seen (Some e)) (seen (first_match entries needle s (all_versions memory tables)))
    shown needle s =
        ap seen (added_read needle s ∙ ap (λ o. or_older o (first_match entries needle s (all_versions memory tables))) (one_read needle s e))
        ∙ seen_by (is_version entries needle s e) (first_match entries needle s (all_versions memory tables))

    number_test : (s : ℕ) → next < s → nat_lt e.key.seqno s ≡ true
    number_test s less = ap (λ n. nat_lt n s) number ∙ lt_test next s less
      where
        lt_test : (a b : ℕ) → a < b → nat_lt a b ≡ true
        lt_test a b h = grind (arith, nat_tests)

    number_fails : (s : ℕ) → s ≤ next → nat_lt e.key.seqno s ≡ false
    number_fails s more = ap (λ n. nat_lt n s) number ∙ ge_test next s more
      where
        ge_test : (a b : ℕ) → b ≤ a → nat_lt a b ≡ false
        ge_test a b h = grind (arith, nat_tests)

    passes : (s : ℕ) → next < s → is_version entries e.key.user_key s e ≡ true
    passes s less =
        ap (λ b. b && is_eq (slice_cmp nat_cmp e.key.user_key e.key.user_key)) (number_test s less)
        ∙ ap is_eq ((slice_cmp-equal e.key.user_key e.key.user_key).1 refl)

    fails : (needle : List ℕ) (s : ℕ) → s ≤ next → is_version entries needle s e ≡ false
    fails needle s more = ap (λ b. b && is_eq (slice_cmp nat_cmp e.key.user_key needle)) (number_fails s more)

    other_fails : (needle : List ℕ) (s : ℕ) → needle ≢ e.key.user_key → is_version entries needle s e ≡ false
    other_fails needle s other = elim (cases_Bool (is_version entries needle s e)) [
      | inl hit ↦ absurd (other (sym (version_key needle s e hit)))
      | inr miss ↦ miss
    ]

    pub is_written : (snapshots : List ℕ) → IsVersionWritten (levels memory tables next snapshots) (levels (merge entry_cmp (e ∷ []) memory) tables (next + 1) snapshots) e.key.user_key (seen (Some e))
    is_written snapshots = record {
      next = refl;
      snapshots = refl;
      above = λ s less. shown e.key.user_key s ∙ ap (λ b. cond b (seen (Some e)) (seen (first_match entries e.key.user_key s (all_versions memory tables)))) (passes s less);
      below = λ s more. shown e.key.user_key s ∙ ap (λ b. cond b (seen (Some e)) (seen (first_match entries e.key.user_key s (all_versions memory tables)))) (fails e.key.user_key s more);
      others = λ other s differs. shown other s ∙ ap (λ b. cond b (seen (Some e)) (seen (first_match entries other s (all_versions memory tables)))) (other_fails other s differs);
    }

-- what the levels are after a version was added
pub record IsAdded (memory : List Entry) (tables : Option (List Entry)) (next : ℕ) (snapshots : List ℕ) (new : List Entry) (number : ℕ) (e : Entry) : Type 0 where
  pub are : AreLevels new tables number
  pub written : IsVersionWritten (levels memory tables next snapshots) (levels new tables number snapshots) e.key.user_key (seen (Some e))

pub version_added : (memory : List Entry) (tables : Option (List Entry)) (next : ℕ) (snapshots : List ℕ) → AreLevels memory tables next → (key value : List ℕ) (value_type : ValueType) → plain_value value_type value ≡ value
    → (new : List Entry) (number : ℕ) → new ≡ merge entry_cmp (version key next value_type value ∷ []) memory → number ≡ next + 1 → IsAdded memory tables next snapshots new number (version key next value_type value)
version_added memory tables next snapshots are key value value_type none new number is follows =
    let e = version key next value_type value in
    let same : plain e ≡ e = ap (λ v. version key next value_type v) none in
    let grown : List Entry = merge entry_cmp (e ∷ []) memory in
    let at : IsAdded memory tables next snapshots grown (next + 1) e = record { are = level_added memory tables next are e refl same; written = is_written memory tables next are e refl same snapshots } in
    subst (λ xs. IsAdded memory tables next snapshots xs number e) (sym is) (subst (λ n. IsAdded memory tables next snapshots grown n e) (sym follows) at)

-- a list of versions as decoded is what it is decoded as
pub plain_same : (items : List Entry) → ArePlain items → map plain items ≡ items
plain_same [] all = refl
plain_same (x ∷ xs) all = ap (λ y. y ∷ map plain xs) all.0 ∙ ap (λ ys. x ∷ ys) (plain_same xs all.1)

known_more : (items : List Entry) (o : Option (List (List Entry))) (older : List Entry) → option_map (merged entry_cmp) o ≡ Some older → option_map (merged entry_cmp) (option_map (λ rest. items ∷ rest) o) ≡ Some (merge entry_cmp items older)
known_more items None older e = absurd (cc)
known_more items (Some lists) older e = ap (option_map (merge entry_cmp items)) e

-- a table is put before others
pub table_added : (table : Option MemoryTable) (tables : List MemoryTable) (items older : List Entry) → HoldsEntries table items → merged_tables tables ≡ Some older → merged_tables (before table tables) ≡ Some (merge entry_cmp items older)
table_added None tables items older none known = known ∙ sym (ap (λ xs. Some (merge entry_cmp xs older)) none)
table_added (Some t) tables items older is known =
    ap (λ o. option_map (merged entry_cmp) (all_known (o ∷ map table_entries tables))) is ∙ known_more items (all_known (map table_entries tables)) older known

module _ (memory : List Entry) (tables : List MemoryTable) (next : ℕ) (are : AreLevels memory (merged_tables tables) next) (table : Option MemoryTable) (is : HoldsEntries table (map plain memory)) where
  flushed : merged_tables (before table tables) ≡ Some (merge entry_cmp memory are.older)
  flushed = table_added table tables (map plain memory) are.older is are.known ∙ ap (λ xs. Some (merge entry_cmp xs are.older)) (plain_same memory are.memory_plain)

  -- the versions in memory become a table
  pub level_flushed : AreLevels [] (merged_tables (before table tables)) next
  level_flushed = record {
    memory_ordered = tt;
    memory_plain = tt;
    memory_below = tt;
    older = merge entry_cmp memory are.older;
    known = flushed;
    older_ordered = merge_order memory are.older are.memory_ordered are.older_ordered;
    older_below = all_merge entry_cmp (λ (x : Entry). x.key.seqno < next) memory are.older are.memory_below are.older_below;
    newer = tt;
  }

  pub flushed_same : or_none (merged_tables (before table tables)) ≡ all_versions memory (merged_tables tables)
  flushed_same = ap or_none flushed ∙ sym (ap (all_versions memory) are.known)

module _ (memory : List Entry) (tables : List MemoryTable) (next : ℕ) (snapshots : List ℕ) (are : AreLevels memory (merged_tables tables) next) (table : Option MemoryTable)
    (is : (older : List Entry) → merged_tables tables ≡ Some older → HoldsEntries table (map plain (compacted (λ (e : Entry). e) snapshots (λ _. true) older)))
    (plains : (needle : List ℕ) (s : ℕ) (items : List Entry) → first_match entries needle s (map plain items) ≡ first_match entries needle s items)
    (keeps : (snapshots : List ℕ) (bottom : List ℕ → Bool) (needle : List ℕ) (s : ℕ) (items : List Entry) → IsKeptRead snapshots s → IsOrdered entries items → seen (first_match entries needle s (compacted (λ (e : Entry). e) snapshots bottom items)) ≡ seen (first_match entries needle s items))
    (orders : (snapshots : List ℕ) (bottom : List ℕ → Bool) (items : List Entry) → IsOrdered entries items → IsOrdered entries (compacted (λ (e : Entry). e) snapshots bottom items))
  where
    abbrev left : List Entry
    left = compacted (λ (e : Entry). e) snapshots (λ _. true) are.older

    compacts : merged_tables (before table []) ≡ Some (map plain left)
    compacts = table_added table [] (map plain left) [] (is are.older are.known) refl ∙ ap Some (merge-nil entry_cmp (map plain left))

    still_newer : (x : Entry) → AreBelow x.key.seqno are.older → AreBelow x.key.seqno (map plain left)
    still_newer x below = all_plain (λ (y : Entry). y.key.seqno < x.key.seqno) (λ y h. h) left (all_compact (λ (y : Entry). y.key.seqno < x.key.seqno) snapshots (λ _. true) None are.older below)

    -- what is left of the tables
    pub compacted_left : or_none (merged_tables (before table [])) ≡ map plain (compacted (λ (e : Entry). e) snapshots (λ _. true) (or_none (merged_tables tables)))
    compacted_left = ap or_none compacts ∙ sym (ap (λ o. map plain (compacted (λ (e : Entry). e) snapshots (λ _. true) (or_none o))) are.known)

    -- the tables become one
    pub level_compacted : AreLevels memory (merged_tables (before table [])) next
    level_compacted = record {
      memory_ordered = are.memory_ordered;
      memory_plain = are.memory_plain;
      memory_below = are.memory_below;
      older = map plain left;
      known = compacts;
      older_ordered = plain_ordered left (orders snapshots (λ _. true) are.older are.older_ordered);
      older_below = all_plain (λ (y : Entry). y.key.seqno < next) (λ y h. h) left (all_compact (λ (y : Entry). y.key.seqno < next) snapshots (λ _. true) None are.older are.older_below);
      newer = all_weaker (λ (x : Entry). AreBelow x.key.seqno are.older) (λ (x : Entry). AreBelow x.key.seqno (map plain left)) memory still_newer are.newer;
    }

    seen_older : (a b c : Option Entry) → seen b ≡ seen c → seen (or_older a b) ≡ seen (or_older a c)
    seen_older None b c e = e
    seen_older (Some a) b c e = refl

    pub compacted_same : (needle : List ℕ) (s : ℕ) → IsKeptRead snapshots s → seen (first_match entries needle s (all_versions memory (merged_tables (before table [])))) ≡ seen (first_match entries needle s (all_versions memory (merged_tables tables)))
    compacted_same needle s at =
        let inner = first_match entries needle s memory in
        ap seen (level_read memory (merged_tables (before table [])) next level_compacted needle s ∙ ap (λ o. or_older inner (first_match entries needle s (or_none o))) compacts ∙ ap (or_older inner) (plains needle s left))
        ∙ seen_older inner (first_match entries needle s left) (first_match entries needle s are.older) (keeps snapshots (λ _. true) needle s are.older at are.older_ordered)
        ∙ sym (ap seen (level_read memory (merged_tables tables) next are needle s ∙ ap (λ o. or_older inner (first_match entries needle s (or_none o))) are.known))

-- what the levels are after a flush
pub record IsFlushed (memory : List Entry) (tables : List MemoryTable) (next : ℕ) (snapshots : List ℕ) (left : List Entry) (new : List MemoryTable) : Type 0 where
  pub are : AreLevels left (merged_tables new) next
  pub is : levels left (merged_tables new) next snapshots ≡ record { memory = []; stored = versions (levels memory (merged_tables tables) next snapshots); next = next; snapshots = snapshots }

pub memory_flushed : (memory : List Entry) (tables : List MemoryTable) (next : ℕ) (snapshots : List ℕ) → AreLevels memory (merged_tables tables) next → (table : Option MemoryTable) (copy left : List Entry) (new : List MemoryTable) → HoldsEntries table (map plain copy) → copy ≡ memory → left ≡ [] → new ≡ before table tables
    → IsFlushed memory tables next snapshots left new
memory_flushed memory tables next snapshots are table copy left new is same none added =
    let of : HoldsEntries table (map plain memory) = subst (λ xs. HoldsEntries table (map plain xs)) same is in
    let flat : List Entry → Levels = λ xs. record { memory = []; stored = xs; next = next; snapshots = snapshots } in
    let at : IsFlushed memory tables next snapshots [] (before table tables) = record { are = level_flushed memory tables next are table of; is = ap flat (flushed_same memory tables next are table of) } in
    subst (λ xs. IsFlushed memory tables next snapshots xs new) (sym none) (subst (IsFlushed memory tables next snapshots []) (sym added) at)

module _ (needle : List ℕ) (s : ℕ) (memory : List Entry) (tables : List MemoryTable) (next : ℕ) (are : AreLevels memory (merged_tables tables) next) where
  -- a version that is found in memory is what a read finds
  pub newer_found : (e : Entry) → Some e ≡ first_match entries needle s memory → Some e ≡ first_match entries needle s (all_versions memory (merged_tables tables))
  newer_found e here =
      sym (level_read memory (merged_tables tables) next are needle s ∙ ap (λ o. or_older o (first_match entries needle s (or_none (merged_tables tables)))) (sym here))

  -- where none is found there, what is found in the tables is
  pub older_found : (all : List (List Entry)) → merged entry_cmp all ≡ are.older → None ≡ first_match entries needle s memory → first_match entries needle s (merged entry_cmp all) ≡ first_match entries needle s (all_versions memory (merged_tables tables))
  older_found all is here =
      sym (level_read memory (merged_tables tables) next are needle s
      ∙ ap (λ o. or_older o (first_match entries needle s (or_none (merged_tables tables)))) (sym here)
      ∙ ap (λ o. first_match entries needle s (or_none o)) are.known
      ∙ ap (first_match entries needle s) (sym is))
