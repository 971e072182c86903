-- Merges of what windows of runs have left: one entry is passed after the other.
use Rattle.std.proofs.Common.{◌≡◌, ◌∙◌, ℕ, zero, suc, ◌+◌, List, [], ◌∷◌, ◌++◌, Bool, true, false, cond, map, filter, set, length, length-append, ◌≤◌, ◌<◌, refl, sym, ap, subst, arith, inl, inr, Option, None, Some, append_assoc}
use Rattle.std.specs.Prelude.{IfSome, slice_get, eqb}
use Rattle.std.specs.List.{AllZip}
use Rattle.std.specs.Option.{option_map}
use Rattle.std.proofs.lemmas.Option.{same_Some, slice_get_within}
use Rattle.std.proofs.lemmas.Bool.{cases_eq, eq-eqb, ne_eqb}
use Rattle.std.proofs.lemmas.List.{map-append, map-set}
use Rattle.std.proofs.lemmas.List.Elements.{filter-append}
use Rattle.sstable_blocks.specs.Prelude.{Entry, IsInOrder}
use Rattle.sst_sources.specs.Merge.{entry_cmp, merged}
use Rattle.sst_sources.specs.Picks.{list_at}
use Rattle.sst_calls.specs.Batches.{IsOtherEndKept, is_under}
use Rattle.sst_calls.specs.Blocks.{IsPlaceOf}
use Rattle.sst_calls.specs.MergeBatches.{AreWindows, IsMergedPlace, Passed, PassesMerged, lists_in, of_run, shown_of, visible_of}
use Rattle.sst_calls.specs.MergeSteps.{ListsIf, MergesTo, hides, is_listed, next_last, shown_after}
use Rattle.sst_calls.proofs.Lists.MergeShown.{order_next, restart, seen_next, shown-map, shown_one, shown_split}
use Rattle.sst_sources.specs.Sources.{Left, PassesFirst, before}
use Rattle.sst_calls.specs.Placed.{PlacedEntry, placed_cmp, placed_left, placed_lists, run_blocks, window_after}
use Rattle.sst_calls.specs.Windows.{left_in}
use Rattle.sst_calls.specs.declared.merge_scan.SstMerged.{SstMerged}
use Rattle.sst_calls.specs.declared.run.SstRun.{SstRun}
use Rattle.sst_calls.specs.declared.window.SstWindow.{SstWindow}
use Rattle.sst_calls.proofs.Lists.MergedLists.{first_merged, list_at-map, list_at-other, list_at-set, merged-map, zip-append}
use Rattle.sst_calls.proofs.Lists.PlacedLists.{first_placed, left_entries}

-- the entry alone
abbrev pub entry_in : PlacedEntry → Entry
entry_in p = p.entry

-- without where they are, the lists are those of the entries that are left
pub lists_entries : (k : ℕ) (runs : List SstRun) (ws : List SstWindow) → map (map entry_in) (placed_lists k runs ws) ≡ lists_in (map run_blocks runs) ws
lists_entries k [] ws = refl
lists_entries k (r ∷ runs) [] = refl
lists_entries k (r ∷ runs) (w ∷ ws) =
    ap (λ v. v ∷ map (map entry_in) (placed_lists (suc k) runs ws)) (left_entries k r.bytes.now (run_blocks r) w)
    ∙ ap (λ v. left_in (run_blocks r) w ∷ v) (lists_entries (suc k) runs ws)

-- the run and the window of a list's first entry, and the windows after it
pub record IsFirstOfLists (k : ℕ) (runs : List SstRun) (ws : List SstWindow) (i : ℕ) (x : PlacedEntry) (rest : List PlacedEntry) : Type 0 where
  pub run : SstRun
  pub window : SstWindow
  pub run_there : slice_get runs i ≡ Some run
  pub window_there : slice_get ws i ≡ Some window
  pub run_is : x.run ≡ k + i
  pub bytes_is : x.bytes ≡ run.bytes.now
  pub windows : AreWindows (map run_blocks runs) (set ws i (window_after window x))
  pub lists : set (placed_lists k runs ws) i rest ≡ placed_lists k runs (set ws i (window_after window x))

pub first_of_lists : (k : ℕ) (runs : List SstRun) (ws : List SstWindow) (i : ℕ) (x : PlacedEntry) (rest : List PlacedEntry) → AreWindows (map run_blocks runs) ws → list_at (placed_lists k runs ws) i ≡ x ∷ rest
    → IsFirstOfLists k runs ws i x rest
first_of_lists k [] ws i x rest are e = absurd (cc (e))
first_of_lists k (r ∷ runs) [] i x rest are e = absurd are
first_of_lists k (r ∷ runs) (w ∷ ws) zero x rest are e =
    let first = first_placed k r.bytes.now (run_blocks r) w x rest are.0 e in
    let n : k ≡ k + 0 = omega arith in
    record {
      run = r;
      window = w;
      run_there = refl;
      window_there = refl;
      run_is = first.run_is ∙ n;
      bytes_is = first.bytes_is;
      windows = (first.window, are.1);
      lists = ap (λ v. v ∷ placed_lists (suc k) runs ws) first.rest_is;
    }
first_of_lists k (r ∷ runs) (w ∷ ws) (suc i) x rest are e =
    let more = first_of_lists (suc k) runs ws i x rest are.1 e in
    let n : suc k + i ≡ k + suc i = omega arith in
    record {
      run = more.run;
      window = more.window;
      run_there = more.run_there;
      window_there = more.window_there;
      run_is = more.run_is ∙ n;
      bytes_is = more.bytes_is;
      windows = (are.0, more.windows);
      lists = ap (λ v. placed_left k r.bytes.now (run_blocks r) w ∷ v) more.lists;
    }

-- the ends of windows are kept
pub ends_same : (ws : List SstWindow) → AllZip (IsOtherEndKept false) ws ws
ends_same [] = tt
ends_same (w ∷ ws) = ((refl, refl), ends_same ws)

ends_set : (us ws : List SstWindow) (i : ℕ) (w : SstWindow) (x : PlacedEntry) → AllZip (IsOtherEndKept false) us ws → slice_get ws i ≡ Some w → AllZip (IsOtherEndKept false) us (set ws i (window_after w x))
ends_set [] [] i w x all at = tt
ends_set [] (v ∷ ws) i w x all at = absurd all
ends_set (u ∷ us) [] i w x all at = absurd all
ends_set (u ∷ us) (v ∷ ws) zero w x all at =
    let same : w ≡ v = cc (at) in
    ((ap (λ (z : SstWindow). z.end_block) same ∙ all.0.0, ap (λ (z : SstWindow). z.end_index) same ∙ all.0.1), all.1)
ends_set (u ∷ us) (v ∷ ws) (suc i) w x all at = (all.0, ends_set us ws i w x all.1 at)

-- a merge of what windows have left goes on by its first entry
pub record IsMergeStep (runs : List SstRun) (ws : List SstWindow) (x : PlacedEntry) (rest : List PlacedEntry) : Type 0 where
  pub tail : List PlacedEntry
  pub there : list_at (placed_lists 0 runs ws) x.run ≡ x ∷ tail
  pub first : IsFirstOfLists 0 runs ws x.run x tail
  pub rest_is : rest ≡ merged placed_cmp (placed_lists 0 runs (set ws x.run (window_after first.window x)))

pub merge_step : (runs : List SstRun) (ws : List SstWindow) (x : PlacedEntry) (rest : List PlacedEntry) → AreWindows (map run_blocks runs) ws → merged placed_cmp (placed_lists 0 runs ws) ≡ x ∷ rest → IsMergeStep runs ws x rest
merge_step runs ws x rest are is =
    let tags : (i : ℕ) (y : PlacedEntry) (ys : List PlacedEntry) → list_at (placed_lists 0 runs ws) i ≡ y ∷ ys → y.run ≡ i = λ i y ys at. (let n = (first_of_lists 0 runs ws i y ys are at).run_is in omega (arith, n)) in
    let one = first_merged placed_cmp (λ (p : PlacedEntry). p.run) (placed_lists 0 runs ws) tags x rest is in
    let first = first_of_lists 0 runs ws x.run x one.tail are one.there in
    record {
      tail = one.tail;
      there = one.there;
      first = first;
      rest_is = one.rest_is ∙ ap (merged placed_cmp) first.lists;
    }

-- the entry that was passed
abbrev pub passed_of : PlacedEntry → Passed
passed_of x = record { run = x.run; entry = x.entry }

-- the entries of a run that were passed, and one more
cut_one : (xss : List (List Entry)) (i : ℕ) (e : Entry) (tail : List Entry) → list_at xss i ≡ e ∷ tail → (j : ℕ) → list_at xss j ≡ of_run j (record { run = i; entry = e } ∷ []) ++ list_at (set xss i tail) j
cut_one xss i e tail at j = elim (cases_eq i j) [
  | inl same ↦ (
      let one : of_run j (record { run = i; entry = e } ∷ []) ≡ e ∷ [] = ap (λ b. map (λ (p : Passed). p.entry) (cond b (record { run = i; entry = e } ∷ []) [])) (eq-eqb i j same) in
      let left : list_at (set xss i tail) j ≡ tail = ap (list_at (set xss i tail)) (sym same) ∙ list_at-set xss i e tail tail at in
      ap (list_at xss) (sym same) ∙ at ∙ ap (λ v. e ∷ v) (sym left) ∙ ap (λ v. v ++ list_at (set xss i tail) j) (sym one))
  | inr other ↦ (
      let none : of_run j (record { run = i; entry = e } ∷ []) ≡ [] = ap (λ b. map (λ (p : Passed). p.entry) (cond b (record { run = i; entry = e } ∷ []) [])) (ne_eqb i j other) in
      sym (list_at-other xss i j tail other) ∙ ap (λ v. v ++ list_at (set xss i tail) j) (sym none))
]

of_run-append : (j : ℕ) (xs ys : List Passed) → of_run j (xs ++ ys) ≡ of_run j xs ++ of_run j ys
of_run-append j xs ys =
    ap (map (λ (p : Passed). p.entry)) (filter-append (λ (p : Passed). eqb p.run j) xs ys)
    ∙ map-append (λ (p : Passed). p.entry) (filter (λ (p : Passed). eqb p.run j) xs) (filter (λ (p : Passed). eqb p.run j) ys)

-- what is listed of an entry that was passed
list_one : (runs : List SstRun) (run : SstRun) (x : PlacedEntry) → slice_get runs x.run ≡ Some run → x.bytes ≡ run.bytes.now → (b : Bool) (more : List SstMerged)
    → AllZip (λ (f : SstMerged) (y : PlacedEntry). (f.run ≡ y.run) × IsPlaceOf y.bytes f.place y.entry) more (cond b (x ∷ []) [])
    → AllZip (IsMergedPlace runs) more (cond b (passed_of x ∷ []) [])
list_one runs run x there same false [] all = tt
list_one runs run x there same false (f ∷ more) all = absurd all
list_one runs run x there same true [] all = absurd all
list_one runs run x there same true (f ∷ []) all = (record { run_is = all.0.0; run = run; there = there; place = subst (λ p. IsPlaceOf p f.place x.entry) same all.0.1 }, tt)
list_one runs run x there same true (f ∷ g ∷ more) all = absurd all.1

module _ (runs : List SstRun) (ss : List ℕ) (below : Option ℕ) where
  abbrev blocks : List (List (List Entry))
  blocks = map run_blocks runs

  abbrev entry_of : Passed → Entry
  entry_of q = q.entry

  -- nothing is passed
  pub merges_none : (ws : List SstWindow) → AreWindows blocks ws → IsInOrder entry_cmp (merged entry_cmp (lists_in blocks ws)) → MergesTo runs blocks ss below ws ws None []
  merges_none ws are order = record {
    windows = are;
    ends = ends_same ws;
    passed = [];
    cut = λ run. refl;
    merge = refl;
    are_listed = tt;
    shown = refl;
    more = λ ps. refl;
    ordered = order;
    seen = tt;
  }

  -- one more entry is passed
  pub merges_one : (us ws : List SstWindow) (last : Option Entry) (old new : List SstMerged) (x : PlacedEntry) (rest : List PlacedEntry) → MergesTo runs blocks ss below us ws last old → (step : IsMergeStep runs ws x rest) → merged placed_cmp (placed_lists 0 runs ws) ≡ x ∷ rest
      → ListsIf (is_listed ss below last x.entry) x old new → MergesTo runs blocks ss below us (set ws x.run (window_after step.first.window x)) (next_last ss last x.entry) new
  merges_one us ws last old new x rest so_far step is listing =
      let first = step.first in
      let after = set ws x.run (window_after first.window x) in
      let later_last = next_last ss last x.entry in
      let p = passed_of x in
      let passed = so_far.passed in
      let lists = lists_entries 0 runs ws in
      let later = lists_entries 0 runs after in
      let left = merged entry_cmp (lists_in blocks after) in
      let there : list_at (lists_in blocks ws) x.run ≡ x.entry ∷ map entry_in step.tail =
      ap (λ v. list_at v x.run) (sym lists) ∙ list_at-map entry_in entry_cmp (placed_lists 0 runs ws) x.run ∙ ap (map entry_in) step.there in
      let exchanged : set (lists_in blocks ws) x.run (map entry_in step.tail) ≡ lists_in blocks after =
      ap (λ v. set v x.run (map entry_in step.tail)) (sym lists) ∙ sym (map-set (map entry_in) (placed_lists 0 runs ws) x.run step.tail) ∙ ap (map (map entry_in)) first.lists ∙ later in
      let goes_on : merged entry_cmp (lists_in blocks ws) ≡ x.entry ∷ left =
      ap (merged entry_cmp) (sym lists) ∙ merged-map entry_in entry_cmp (placed_lists 0 runs ws) ∙ ap (map entry_in) is
      ∙ ap (λ v. x.entry ∷ map entry_in v) step.rest_is ∙ ap (λ v. x.entry ∷ v) (sym (merged-map entry_in entry_cmp (placed_lists 0 runs after))) ∙ ap (λ v. x.entry ∷ merged entry_cmp v) later in
      let under : Passed → Bool = λ q. is_under below q.entry.key.seqno in
      let so_shown : List Passed = shown_of entry_of ss passed in
      let one : List Passed = shown_after entry_of ss last (p ∷ []) in
      let both : shown_of entry_of ss (passed ++ p ∷ []) ≡ so_shown ++ one = so_far.more (p ∷ []) in
      let seen : visible_of below (shown_of entry_of ss (passed ++ p ∷ [])) ≡ visible_of below so_shown ++ cond (is_listed ss below last x.entry) (p ∷ []) [] =
      ap (filter under) both ∙ filter-append under so_shown one ∙ ap (λ v. visible_of below so_shown ++ v) (shown_one ss entry_of under last p) in
      let listed = zip-append (IsMergedPlace runs) old (visible_of below so_shown) listing.more (cond (is_listed ss below last x.entry) (p ∷ []) []) so_far.are_listed
      (list_one runs first.run x first.run_there first.bytes_is (is_listed ss below last x.entry) listing.more listing.listed) in
      record {
        windows = first.windows;
        ends = ends_set us ws x.run first.window x so_far.ends first.window_there;
        passed = passed ++ p ∷ [];
        cut = λ j. so_far.cut j
            ∙ ap (λ v. of_run j passed ++ v) (cut_one (lists_in blocks ws) x.run x.entry (map entry_in step.tail) there j)
            ∙ sym (append_assoc (of_run j passed) (of_run j (p ∷ [])) (list_at (set (lists_in blocks ws) x.run (map entry_in step.tail)) j))
            ∙ ap (λ v. v ++ list_at (set (lists_in blocks ws) x.run (map entry_in step.tail)) j) (sym (of_run-append j passed (p ∷ [])))
            ∙ ap (λ v. of_run j (passed ++ p ∷ []) ++ list_at v j) exchanged;
        merge = so_far.merge
            ∙ ap (λ v. map entry_of passed ++ v) goes_on
            ∙ sym (append_assoc (map entry_of passed) (x.entry ∷ []) left)
            ∙ ap (λ v. v ++ left) (sym (map-append entry_of passed (p ∷ [])));
        are_listed = subst (λ v. AllZip (IsMergedPlace runs) v (visible_of below (shown_of entry_of ss (passed ++ p ∷ [])))) (sym listing.is) (subst (AllZip (IsMergedPlace runs) (old ++ listing.more)) (sym seen) listed);
        shown = so_far.shown
            ∙ ap (λ v. map entry_of so_shown ++ shown_after (λ (e : Entry). e) ss last v) goes_on
            ∙ ap (λ v. map entry_of so_shown ++ v) (shown_split ss (λ (e : Entry). e) last x.entry left ∙ ap (λ v. v ++ shown_after (λ (e : Entry). e) ss later_last left) (sym (shown-map ss entry_of last (p ∷ []))))
            ∙ sym (append_assoc (map entry_of so_shown) (map entry_of one) (shown_after (λ (e : Entry). e) ss later_last left))
            ∙ ap (λ v. v ++ shown_after (λ (e : Entry). e) ss later_last left) (sym (map-append entry_of so_shown one) ∙ ap (map entry_of) (sym both));
        more = λ ps. ap (shown_of entry_of ss) (append_assoc passed (p ∷ []) ps)
            ∙ so_far.more (p ∷ ps)
            ∙ ap (λ v. so_shown ++ v) (shown_split ss entry_of last p ps)
            ∙ sym (append_assoc so_shown one (shown_after entry_of ss later_last ps))
            ∙ ap (λ v. v ++ shown_after entry_of ss later_last ps) (sym both);
        ordered = order_next ss last x.entry left (subst (λ v. IsInOrder entry_cmp (before last v)) goes_on so_far.ordered);
        seen = seen_next ss last x.entry so_far.seen;
      }

  -- a merge that stops at an entry that is not hidden
  pub merges_end : (us ws : List SstWindow) (last : Option Entry) (listed : List SstMerged) → MergesTo runs blocks ss below us ws last listed → ((y : Entry) (rest : List Entry) → merged entry_cmp (lists_in blocks ws) ≡ y ∷ rest → hides ss last y ≡ false)
      → PassesMerged runs blocks ss below us ws listed
  merges_end us ws last listed so_far stop = record {
    windows = so_far.windows;
    ends = so_far.ends;
    passed = so_far.passed;
    cut = so_far.cut;
    merge = so_far.merge;
    are_listed = so_far.are_listed;
    shown = so_far.shown ∙ ap (λ v. map entry_of (shown_of entry_of ss so_far.passed) ++ v) (restart ss last (merged entry_cmp (lists_in blocks ws)) so_far.ordered so_far.seen stop);
  }

  -- nothing is left
  pub merges_all : (ws : List SstWindow) → merged placed_cmp (placed_lists 0 runs ws) ≡ [] → merged entry_cmp (lists_in blocks ws) ≡ []
  merges_all ws none = ap (merged entry_cmp) (sym (lists_entries 0 runs ws)) ∙ merged-map entry_in entry_cmp (placed_lists 0 runs ws) ∙ ap (map entry_in) none

  -- what is left begins with the entry of the merge's first
  pub merges_first : (ws : List SstWindow) (x : PlacedEntry) (rest : List PlacedEntry) → merged placed_cmp (placed_lists 0 runs ws) ≡ x ∷ rest → (y : Entry) (ys : List Entry) → merged entry_cmp (lists_in blocks ws) ≡ y ∷ ys → x.entry ≡ y
  merges_first ws x rest is y ys e =
      let both : x.entry ∷ map entry_in rest ≡ y ∷ ys = ap (map entry_in) (sym is) ∙ sym (merged-map entry_in entry_cmp (placed_lists 0 runs ws)) ∙ ap (merged entry_cmp) (lists_entries 0 runs ws) ∙ e in
      cc (both)

-- the first of a known list is taken
taken_front : (all : List PlacedEntry) (x : PlacedEntry) (o : Option (List PlacedEntry)) → ◌≡◌ {A = Option (List PlacedEntry)} (Some all) (option_map (λ xs. x ∷ xs) o) → (rest : List PlacedEntry) × (o ≡ Some rest) × (all ≡ x ∷ rest)
taken_front all x None e = absurd (cc (e))
taken_front all x (Some rest) e = (rest, refl, same_Some all (x ∷ rest) e)

-- at most one is listed
few_listed : (b : Bool) (x : PlacedEntry) (more : List SstMerged) → AllZip (λ (f : SstMerged) (y : PlacedEntry). (f.run ≡ y.run) × IsPlaceOf y.bytes f.place y.entry) more (cond b (x ∷ []) []) → length more ≤ 1
few_listed false x [] all = omega arith
few_listed false x (f ∷ more) all = absurd all
few_listed true x [] all = absurd all
few_listed true x (f ∷ []) all = omega arith
few_listed true x (f ∷ g ∷ more) all = absurd all.1

pub one_listed : (test : Bool) (x : PlacedEntry) (old new : List SstMerged) → ListsIf test x old new → length new ≤ length old + 1
one_listed test x old new listing =
    omega (arith, few_listed test x listing.more listing.listed, ap (λ (v : List SstMerged). length v) listing.is, length-append old listing.more)

-- none is listed where the test does not hold
no_more : (x : PlacedEntry) (more : List SstMerged) → AllZip (λ (f : SstMerged) (y : PlacedEntry). (f.run ≡ y.run) × IsPlaceOf y.bytes f.place y.entry) more [] → length more ≤ 0
no_more x [] all = omega arith
no_more x (f ∷ more) all = absurd all

pub none_listed : (test : Bool) (x : PlacedEntry) (old new : List SstMerged) → test ≡ false → ListsIf test x old new → length new ≤ length old
none_listed test x old new not listing =
    let all = subst (λ b. AllZip (λ (f : SstMerged) (y : PlacedEntry). (f.run ≡ y.run) × IsPlaceOf y.bytes f.place y.entry) listing.more (cond b (x ∷ []) [])) not listing.listed in
    omega (arith, no_more x listing.more all, ap (λ (v : List SstMerged). length v) listing.is, length-append old listing.more)

-- the run of the next entry has a window
pub run_inside : (runs : List SstRun) (ws : List SstWindow) (x : PlacedEntry) (rest : List PlacedEntry) → AreWindows (map run_blocks runs) ws → merged placed_cmp (placed_lists 0 runs ws) ≡ x ∷ rest → x.run < length ws
run_inside runs ws x rest are is =
    let step = merge_step runs ws x rest are is in
    slice_get_within ws x.run step.first.window step.first.window_there

-- the first entry that is shown
pub first_none : (all : List PlacedEntry) → ◌≡◌ {A = Option PlacedEntry} None (slice_get all 0) → all ≡ []
first_none [] e = refl
first_none (x ∷ all) e = absurd (cc (e))

pub first_some : (all : List PlacedEntry) (x : PlacedEntry) → Some x ≡ slice_get all 0 → (rest : List PlacedEntry) × (all ≡ x ∷ rest)
first_some [] x e = absurd (cc (e))
first_some (y ∷ all) x e = let same : x ≡ y = cc (e) in (all, ap (λ z. z ∷ all) (sym same))

-- it is passed
pub advanced : (s t : Left PlacedEntry) (passed : Bool) (x : PlacedEntry) (rest : List PlacedEntry) → s.list ≡ Some (x ∷ rest) → PassesFirst s passed t → t.list ≡ Some rest
advanced s t true x rest known went =
    let front = taken_front (x ∷ rest) went.0 t.list (sym known ∙ went.1.0) in
    let same : rest ≡ front.0 = (let both : x ∷ rest ≡ went.0 ∷ front.0 = front.2 in cc (both)) in
    front.1 ∙ ap Some (sym same)
advanced s t false x rest known went =
    absurd (let none : x ∷ rest ≡ [] = subst (λ o. IfSome o (λ (xs : List PlacedEntry). xs ≡ [])) known went.1 in cc (none))
