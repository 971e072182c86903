-- Laws of merges of sources that are moved, where their lists may be unknown.
use Rattle.std.proofs.Common.{◌≡◌, ℕ, zero, suc, ◌+◌, ◌-◌, ◌*◌, ◌<◌, ◌≤◌, min, Bool, true, false, cond, List, [], ◌∷◌, length, map, drop, get_or, Option, Some, None, slice_get, refl, sym, ap, subst, ◌∙◌, inl, inr, arith}
use Rattle.std.proofs.lemmas.List.{length-map, get_or-map, map-set, set-get_or}
use Rattle.std.proofs.lemmas.List.Sums.{sum_by-cons, sum_by-set}
use Rattle.std.proofs.Math.ListN.{set}
use Rattle.std.proofs.Math.Seq.{drop-cons}
use Rattle.std.specs.Cmp.{IsTotalOrder}
use Rattle.std.specs.List.{AllByRecursion, sum_by}
use Rattle.std.specs.Option.{option_map, IfSome}
use Rattle.std.specs.Prelude.{if◌then◌else◌}
use Rattle.std.specs.declared.cmp.Ordering.{Ordering}
use Rattle.sstable_blocks.specs.Prelude.{found_item, Window, whole, some_left, first_left, last_left, next, next_back, Step, item}
use Rattle.sstable_blocks.specs.Results.{Error}
use Rattle.sstable_blocks.specs.BlockLaws.{item_same}
use Rattle.sst_sources.specs.ErrorLaws.{met_under, one_of_all}
use Rattle.sst_merge.specs.Movable.{AreMoved, IsBackAmong, IsBackPick, IsFresh, IsFrontAmong, IsFrontPick, TakesBack, TakesFront, changed_until, goes_after, goes_before, item_before, merged_window}
use Rattle.sst_merge.specs.Moved.{AsksAtMost, IsFreshSource, IsSought, IsStep, MayStop, Moved, all_some, are_known, but_reads, merged_moved, moved_errors, sought, step_back, step_front, unless_ended, window_or_empty, windows}
use Rattle.sst_sources.specs.Sources.{errors_of}
use Rattle.sst_merge.proofs.Moving.MovableLaws.{back_done, back_empty, back_ends, back_is, back_kept, back_start, back_turn, changed_next, first_is, front_done, front_start, front_turn, last_is, not_changed, next_empty, next_ends, next_is, next_kept}

module _ {X : Type 0} where
  known_parts : (o : Option (Window X)) (rest : Bool) → all_some o rest ≡ true → (o ≡ Some (window_or_empty o)) × (rest ≡ true)
  known_parts None rest h = absurd (cc)
  known_parts (Some w) rest h = (refl, h)

  -- the window of a source, where those of all are known
  pub known_at : (ms : List (Moved X)) (i : ℕ) (m : Moved X) → are_known ms ≡ true → i < length ms → m ≡ get_or ms i m → m.window ≡ Some (window_or_empty m.window)
  known_at [] i m known inside is = absurd (omega (arith, inside))
  known_at (n ∷ ms) zero m known inside is = subst (λ (k : Moved X). k.window ≡ Some (window_or_empty k.window)) (sym is) (known_parts n.window (are_known ms) known).0
  known_at (n ∷ ms) (suc i) m known inside is = known_at ms i m (known_parts n.window (are_known ms) known).1 (omega (arith, inside)) is

  -- what holds of a window that may be known
  pub if_known : (P : Window X → Type 0) (o : Option (Window X)) → o ≡ Some (window_or_empty o) → IfSome o P → P (window_or_empty o)
  if_known P None e h = absurd (cc)
  if_known P (Some w) e h = h

  pub shown : (P : Window X → Type 0) (ended : Option Error) (k : Bool) (w : Window X) → (k ≡ true → P w) → IfSome (unless_ended ended (if k then Some w else None)) P
  shown P None true w h = h refl
  shown P None false w h = tt
  shown P (Some e) k w h = tt

  known_mapped : (f : Window X → Window X) (o : Option (Window X)) (rest : Bool) → all_some (option_map f o) rest ≡ all_some o rest
  known_mapped f None rest = refl
  known_mapped f (Some w) rest = refl

  never : (o : Option (Window X)) → all_some o false ≡ false
  never None = refl
  never (Some w) = refl

  -- one source is exchanged for another that is known where it is
  pub known_set : (ms : List (Moved X)) (p : ℕ) (m n : Moved X) (f : Window X → Window X) → p < length ms → m ≡ get_or ms p m → n.window ≡ option_map f m.window → are_known (set ms p n) ≡ are_known ms
  known_set [] p m n f inside is now = absurd (omega (arith, inside))
  known_set (k ∷ ms) zero m n f inside is now = ap (λ o. all_some o (are_known ms)) now ∙ known_mapped f m.window (are_known ms) ∙ ap (λ (j : Moved X). all_some j.window (are_known ms)) is
  known_set (k ∷ ms) (suc p) m n f inside is now = ap (all_some k.window) (known_set ms p m n f (omega (arith, inside)) is now)

  -- or for one that was lost
  pub lost_set : (ms : List (Moved X)) (p : ℕ) (n : Moved X) → p < length ms → n.window ≡ None → are_known (set ms p n) ≡ false
  lost_set [] p n inside none = absurd (omega (arith, inside))
  lost_set (k ∷ ms) zero n inside none = ap (λ o. all_some o (are_known ms)) none
  lost_set (k ∷ ms) (suc p) n inside none = ap (all_some k.window) (lost_set ms p n (omega (arith, inside)) none) ∙ never k.window

  errors_at : (ms : List (Moved X)) (p : ℕ) (m : Moved X) → p < length ms → m ≡ get_or ms p m → moved_errors m ≡ get_or (map (λ (k : Moved X). moved_errors k) ms) p (moved_errors m)
  errors_at ms p m inside is = ap (λ (k : Moved X). moved_errors k) is ∙ sym (get_or-map (λ (k : Moved X). moved_errors k) ms p m (moved_errors m) inside)

  errors_set : (ms : List (Moved X)) (p : ℕ) (m n : Moved X) → p < length ms → m ≡ get_or ms p m → moved_errors n ≡ moved_errors m → map (λ (k : Moved X). moved_errors k) (set ms p n) ≡ map (λ (k : Moved X). moved_errors k) ms
  errors_set ms p m n inside is same =
      map-set (λ (k : Moved X). moved_errors k) ms p n ∙ ap (set (map (λ (k : Moved X). moved_errors k) ms) p) (same ∙ errors_at ms p m inside is)
      ∙ set-get_or (map (λ (k : Moved X). moved_errors k) ms) p (moved_errors m)

  -- a sum over sources of which one is exchanged
  sum_kept : (f : Moved X → ℕ) (ms : List (Moved X)) (p : ℕ) (m n : Moved X) → p < length ms → m ≡ get_or ms p m → f n ≡ f m → sum_by f (set ms p n) ≡ sum_by f ms
  sum_kept f ms p m n inside is same = (let e = sum_by-set f ms p n m inside in let d = ap f is in omega (arith, e, d, same))

  -- one of the terms of a sum
  one_of_sum : (f : Moved X → ℕ) (ms : List (Moved X)) (p : ℕ) (m : Moved X) → p < length ms → m ≡ get_or ms p m → f m ≤ sum_by f ms
  one_of_sum f [] p m inside is = absurd (omega (arith, inside))
  one_of_sum f (k ∷ ms) zero m inside is = (let e = sum_by-cons f k ms in let d = ap f is in omega (arith, e, d))
  one_of_sum f (k ∷ ms) (suc p) m inside is = (let e = sum_by-cons f k ms in let h = one_of_sum f ms p m (omega (arith, inside)) is in omega (arith, e, h))

  -- sources that are the same but for their counts of frames
  pub moved_by : (a b : Moved X) → a.window ≡ b.window → a.errors ≡ b.errors → a.ended ≡ b.ended → a.tables ≡ b.tables → a.starts ≡ b.starts → but_reads a ≡ but_reads b
  moved_by a b p q r s t =
      let window_to : Option (Window X) → Moved X = λ w. record { window = w; errors = a.errors; ended = a.ended; reads = 0; tables = a.tables; starts = a.starts } in
      let errors_to : Option (List Error) → Moved X = λ e. record { window = b.window; errors = e; ended = a.ended; reads = 0; tables = a.tables; starts = a.starts } in
      let ended_to : Option Error → Moved X = λ e. record { window = b.window; errors = b.errors; ended = e; reads = 0; tables = a.tables; starts = a.starts } in
      let tables_to : ℕ → Moved X = λ n. record { window = b.window; errors = b.errors; ended = b.ended; reads = 0; tables = n; starts = a.starts } in
      let starts_to : List ℕ → Moved X = λ ns. record { window = b.window; errors = b.errors; ended = b.ended; reads = 0; tables = b.tables; starts = ns } in
      ap window_to p ∙ ap errors_to q ∙ ap ended_to r ∙ ap tables_to s ∙ ap starts_to t

  -- sources, but for how many frames they asked for
  abbrev unread : List (Moved X) → List (Moved X)
  unread ms = map (λ (m : Moved X). but_reads m) ms

  windows_unread : (ms : List (Moved X)) → windows (unread ms) ≡ windows ms
  windows_unread [] = refl
  windows_unread (m ∷ ms) = ap (λ ws. window_or_empty m.window ∷ ws) (windows_unread ms)

  known_unread : (ms : List (Moved X)) → are_known (unread ms) ≡ are_known ms
  known_unread [] = refl
  known_unread (m ∷ ms) = ap (all_some m.window) (known_unread ms)

  errors_unread : (ms : List (Moved X)) → map (λ (k : Moved X). moved_errors k) (unread ms) ≡ map (λ (k : Moved X). moved_errors k) ms
  errors_unread [] = refl
  errors_unread (m ∷ ms) = ap (λ es. moved_errors m ∷ es) (errors_unread ms)

  tables_unread : (ms : List (Moved X)) → sum_by (λ (k : Moved X). k.tables) (unread ms) ≡ sum_by (λ (k : Moved X). k.tables) ms
  tables_unread [] = refl
  tables_unread (m ∷ ms) = sum_by-cons (λ (k : Moved X). k.tables) (but_reads m) (unread ms) ∙ ap (λ n. m.tables + n) (tables_unread ms) ∙ sym (sum_by-cons (λ (k : Moved X). k.tables) m ms)

  merged_unread : (cmp : X → X → Ordering) (ms : List (Moved X)) → but_reads (merged_moved cmp None (unread ms)) ≡ but_reads (merged_moved cmp None ms)
  merged_unread cmp ms =
      moved_by (merged_moved cmp None (unread ms)) (merged_moved cmp None ms)
      (ap (λ (ws : List (Window X)). if are_known (unread ms) then Some (merged_window cmp ws) else None) (windows_unread ms) ∙ ap (λ (k : Bool). if k then Some (merged_window cmp (windows ms)) else None) (known_unread ms))
      (ap errors_of (errors_unread ms)) refl (tables_unread ms) refl

  -- a step of a window, where it is known
  stepped : (step : Step X) (k j : Bool) (b a : Window X) (r : Option X) → j ≡ k → (k ≡ true → (a, item r) ≡ step b)
      → ((if j then Some a else None) ≡ option_map (λ w. (step w).0) (if k then Some b else None)) × IfSome (if k then Some b else None) (λ w. item r ≡ (step w).1)
  stepped step true true b a r same h = (ap Some (ap (λ q. q.0) (h refl)), ap (λ q. q.1) (h refl))
  stepped step true false b a r same h = absurd (cc)
  stepped step false true b a r same h = absurd (cc)
  stepped step false false b a r same h = (refl, tt)

  -- steps of one source
  takes_front : (w v : Window X) (r : Option X) → r ≡ slice_get w.list w.lo → v ≡ (step_front w).0 → TakesFront w r v
  takes_front w v None e now =
      let to : ℕ → Window X = λ n. record w { lo = n } in
      (sym e, now ∙ ap (λ (o : Option X). record w { lo = w.lo + found_item o }) (sym e) ∙ ap to (let d : w.lo + 0 ≡ w.lo = omega arith in d))
  takes_front w v (Some x) e now = (sym e, now ∙ ap (λ (o : Option X). record w { lo = w.lo + found_item o }) (sym e))

  takes_back : (w v : Window X) (r : Option X) → r ≡ item_before w.list w.hi → v ≡ (step_back w).0 → TakesBack w r v
  takes_back w v None e now =
      let to : ℕ → Window X = λ n. record w { hi = n } in
      (sym e, now ∙ ap (λ (o : Option X). record w { hi = w.hi - found_item o }) (sym e) ∙ ap to (let d : w.hi - 0 ≡ w.hi = omega arith in d))
  takes_back w v (Some x) e now = (sym e, now ∙ ap (λ (o : Option X). record w { hi = w.hi - found_item o }) (sym e))

  stepped_window : (step : Step X) (m n : Moved X) (r : Option X) → IsStep step m r n → m.window ≡ Some (window_or_empty m.window) → (window_or_empty n.window ≡ (step (window_or_empty m.window)).0) × (item r ≡ (step (window_or_empty m.window)).1)
  stepped_window step m n r h known = (
    ap (λ (k : Moved X). window_or_empty k.window) h.moved ∙ ap (λ o. window_or_empty (option_map (λ w. (step w).0) o)) known,
    if_known (λ w. item r ≡ (step w).1) m.window known h.item_is,
  )

  pub front_taken : (m n : Moved X) (r : Option X) → IsStep step_front m r n → m.window ≡ Some (window_or_empty m.window) → TakesFront (window_or_empty m.window) r (window_or_empty n.window)
  front_taken m n r h known =
      let w = window_or_empty m.window in
      let k = stepped_window step_front m n r h known in
      takes_front w (window_or_empty n.window) r (item_same r (slice_get w.list w.lo) k.1) k.0

  pub back_taken : (m n : Moved X) (r : Option X) → IsStep step_back m r n → m.window ≡ Some (window_or_empty m.window) → TakesBack (window_or_empty m.window) r (window_or_empty n.window)
  back_taken m n r h known =
      let w = window_or_empty m.window in
      let k = stepped_window step_back m n r h known in
      takes_back w (window_or_empty n.window) r (item_same r (item_before w.list w.hi) k.1) k.0

abbrev view : {X : Type 0} → Moved X → Window X
view m = window_or_empty m.window

-- what a source may fail by, the merge may
pub stop_by : {X : Type 0} (cmp : X → X → Ordering) (ms : List (Moved X)) (p : ℕ) (m : Moved X) → p < length ms → m ≡ get_or ms p m → (may_fail : Error → Type 0) (e : Error) → MayStop may_fail m e → MayStop may_fail (merged_moved cmp None ms) e
stop_by cmp ms p m inside is may_fail e (inl device) = inl device
stop_by {X = X} cmp ms p m inside is may_fail e (inr met) =
    let f = λ (k : Moved X). moved_errors k in
    let n : length (map f ms) ≡ length ms = length-map ms f in
    inr (met_under None (errors_of (map f ms)) e (one_of_all (map f ms) p (f m) e (omega (arith, n, inside)) (get_or-map f ms p m (f m) inside ∙ ap f (sym is)) met))

module _ {X : Type 0} (cmp : X → X → Ordering) (order : IsTotalOrder cmp) (ms : List (Moved X)) (kept : are_known ms ≡ true → AreMoved cmp (windows ms)) where
  -- what the merge is after a step of a source
  by_step : (step own : Step X) (p : ℕ) (m n : Moved X) (r : Option X) → p < length ms → m ≡ get_or ms p m → IsStep own m r n → (are_known ms ≡ true → (merged_window cmp (windows (set ms p n)), item r) ≡ step (merged_window cmp (windows ms)))
      → IsStep step (merged_moved cmp None ms) r (merged_moved cmp None (set ms p n))
  by_step step own p m n r inside is h is_step =
      let same = known_set ms p m n (λ w. (own w).0) inside is (ap (λ (k : Moved X). k.window) h.moved) in
      let s = stepped step (are_known ms) (are_known (set ms p n)) (merged_window cmp (windows ms)) (merged_window cmp (windows (set ms p n))) r same is_step in
      let old = merged_moved cmp None ms in
      let errors = ap errors_of (errors_set ms p m n inside is (ap (λ (k : Moved X). moved_errors k) h.moved)) in
      let tables = sum_kept (λ (k : Moved X). k.tables) ms p m n inside is (ap (λ (k : Moved X). k.tables) h.moved) in
      record { moved = moved_by (merged_moved cmp None (set ms p n)) (record old { window = option_map (λ w. (step w).0) old.window }) s.0 errors refl tables refl; item_is = s.1 }

  -- or where none is left
  no_step : (step : Step X) → (are_known ms ≡ true → (merged_window cmp (windows ms), item None) ≡ step (merged_window cmp (windows ms))) → IsStep step (merged_moved cmp None ms) None (merged_moved cmp None ms)
  no_step step is_step =
      let s = stepped step (are_known ms) (are_known ms) (merged_window cmp (windows ms)) (merged_window cmp (windows ms)) None refl is_step in
      let old = merged_moved cmp None ms in
      record { moved = moved_by old (record old { window = option_map (λ w. (step w).0) old.window }) s.0 refl refl refl refl; item_is = s.1 }

  module _ (p : ℕ) (m : Moved X) (inside : p < length ms) (is : m ≡ get_or ms p m) where
    -- the answer of the source, where its window is known
    left_is : (left found : Bool) → IfSome m.window (λ w. left ≡ some_left w) → left ≡ found → are_known ms ≡ true → some_left (view m) ≡ found
    left_is left found h e known = sym (if_known (λ w. left ≡ some_left w) m.window (known_at ms p m known inside is) h) ∙ e

    pub first_step : (n : Moved X) (r : Option X) (left : Bool) → (are_known ms ≡ true → IsFrontPick cmp (windows ms) p) → IfSome m.window (λ w. left ≡ some_left w) → left ≡ true → IsStep step_front m r n → IsStep next (merged_moved cmp None ms) r (merged_moved cmp None (set ms p n))
    first_step n r left pick some more h = by_step next step_front p m n r inside is h (λ known.
        next_is cmp order view ms (kept known) p m is (merged_window cmp (windows ms)) r n refl (pick known) (left_is left true some more known) (front_taken m n r h (known_at ms p m known inside is)))

    pub first_none : (left : Bool) → (are_known ms ≡ true → IsFrontPick cmp (windows ms) p) → IfSome m.window (λ w. left ≡ some_left w) → left ≡ false → IsStep next (merged_moved cmp None ms) None (merged_moved cmp None ms)
    first_none left pick some none = no_step next (λ known. next_ends cmp order view ms (kept known) p m is (merged_window cmp (windows ms)) refl (pick known) (left_is left false some none known))

    pub first_kept : (n : Moved X) (r : Option X) → (are_known ms ≡ true → IsFrontPick cmp (windows ms) p) → IsStep step_front m r n → are_known (set ms p n) ≡ true → AreMoved cmp (windows (set ms p n))
    first_kept n r pick h now =
        let known = sym (known_set ms p m n (λ w. (step_front w).0) inside is (ap (λ (k : Moved X). k.window) h.moved)) ∙ now in
        next_kept cmp order view ms (kept known) p m is r n (pick known) (front_taken m n r h (known_at ms p m known inside is))

    pub last_step : (n : Moved X) (r : Option X) (left : Bool) → (are_known ms ≡ true → IsBackPick cmp (windows ms) p) → IfSome m.window (λ w. left ≡ some_left w) → left ≡ true → IsStep step_back m r n → IsStep next_back (merged_moved cmp None ms) r (merged_moved cmp None (set ms p n))
    last_step n r left pick some more h = by_step next_back step_back p m n r inside is h (λ known.
        back_is cmp order view ms (kept known) p m is (merged_window cmp (windows ms)) r n refl (pick known) (left_is left true some more known) (back_taken m n r h (known_at ms p m known inside is)))

    pub last_none : (left : Bool) → (are_known ms ≡ true → IsBackPick cmp (windows ms) p) → IfSome m.window (λ w. left ≡ some_left w) → left ≡ false → IsStep next_back (merged_moved cmp None ms) None (merged_moved cmp None ms)
    last_none left pick some none = no_step next_back (λ known. back_ends cmp order view ms (kept known) p m is (merged_window cmp (windows ms)) refl (pick known) (left_is left false some none known))

    pub last_kept : (n : Moved X) (r : Option X) → (are_known ms ≡ true → IsBackPick cmp (windows ms) p) → IsStep step_back m r n → are_known (set ms p n) ≡ true → AreMoved cmp (windows (set ms p n))
    last_kept n r pick h now =
        let known = sym (known_set ms p m n (λ w. (step_back w).0) inside is (ap (λ (k : Moved X). k.window) h.moved)) ∙ now in
        back_kept cmp order view ms (kept known) p m is r n (pick known) (back_taken m n r h (known_at ms p m known inside is))

    -- the source is lost
    pub lost_kept : (n : Moved X) → n.window ≡ None → are_known (set ms p n) ≡ true → AreMoved cmp (windows (set ms p n))
    lost_kept n none now = absurd (let e = sym (lost_set ms p n inside none) ∙ now in cc)

  pub first_empty : length ms ≡ 0 → IsStep next (merged_moved cmp None ms) None (merged_moved cmp None ms)
  first_empty none = no_step next (λ known. next_empty cmp order view ms (merged_window cmp (windows ms)) refl none)

  pub last_empty : length ms ≡ 0 → IsStep next_back (merged_moved cmp None ms) None (merged_moved cmp None ms)
  last_empty none = no_step next_back (λ known. back_empty cmp order view ms (merged_window cmp (windows ms)) refl none)

-- what is shown of a merge, where no source has an item left, and where one has
module _ {X : Type 0} (cmp : X → X → Ordering) (order : IsTotalOrder cmp) (ms : List (Moved X)) (kept : are_known ms ≡ true → AreMoved cmp (windows ms)) (ended : Option Error) (all : Moved X) (whole_is : merged_moved cmp ended ms ≡ all) where
  by_known : (P : Window X → Type 0) → (are_known ms ≡ true → P (merged_window cmp (windows ms))) → IfSome all.window P
  by_known P h = subst (λ (m : Moved X). IfSome m.window P) whole_is (shown P ended (are_known ms) (merged_window cmp (windows ms)) h)

  answer : (step : Step X) (o : Option X) (e : (merged_window cmp (windows ms), item None) ≡ step (merged_window cmp (windows ms))) → item o ≡ (step (merged_window cmp (windows ms))).1 → None ≡ o
  answer step o e h = item_same None o (ap (λ r. r.1) e ∙ sym h)

  pub shows_no_first : length ms ≡ 0 → IfSome all.window (λ w. None ≡ first_left w)
  shows_no_first none = by_known (λ w. None ≡ first_left w) (λ known. let m = merged_window cmp (windows ms) in answer next (first_left m) (next_empty cmp order view ms m refl none) refl)

  pub shows_no_last : length ms ≡ 0 → IfSome all.window (λ w. None ≡ last_left w)
  shows_no_last none = by_known (λ w. None ≡ last_left w) (λ known. let m = merged_window cmp (windows ms) in answer next_back (last_left m) (back_empty cmp order view ms m refl none) refl)

  module _ (p : ℕ) (m : Moved X) (inside : p < length ms) (is : m ≡ get_or ms p m) where
    pub shows_none_first : (left : Bool) → (are_known ms ≡ true → IsFrontPick cmp (windows ms) p) → IfSome m.window (λ w. left ≡ some_left w) → left ≡ false → IfSome all.window (λ w. None ≡ first_left w)
    shows_none_first left pick some none = by_known (λ w. None ≡ first_left w) (λ known.
        let w = merged_window cmp (windows ms) in
        answer next (first_left w) (next_ends cmp order view ms (kept known) p m is w refl (pick known) (left_is cmp order ms kept p m inside is left false some none known)) refl)

    pub shows_none_last : (left : Bool) → (are_known ms ≡ true → IsBackPick cmp (windows ms) p) → IfSome m.window (λ w. left ≡ some_left w) → left ≡ false → IfSome all.window (λ w. None ≡ last_left w)
    shows_none_last left pick some none = by_known (λ w. None ≡ last_left w) (λ known.
        let w = merged_window cmp (windows ms) in
        answer next_back (last_left w) (back_ends cmp order view ms (kept known) p m is w refl (pick known) (left_is cmp order ms kept p m inside is left false some none known)) refl)

    pub shows_first : (left : Bool) (o : Option X) → (are_known ms ≡ true → IsFrontPick cmp (windows ms) p) → IfSome m.window (λ w. left ≡ some_left w) → left ≡ true → IfSome m.window (λ w. o ≡ slice_get w.list w.lo) → IfSome all.window (λ w. o ≡ first_left w)
    shows_first left o pick some more at = by_known (λ w. o ≡ first_left w) (λ known.
        first_is cmp order view ms (kept known) p m is (merged_window cmp (windows ms)) refl o (pick known) (left_is cmp order ms kept p m inside is left true some more known)
        (if_known (λ w. o ≡ slice_get w.list w.lo) m.window (known_at ms p m known inside is) at))

    pub shows_last : (left : Bool) (o : Option X) → (are_known ms ≡ true → IsBackPick cmp (windows ms) p) → IfSome m.window (λ w. left ≡ some_left w) → left ≡ true → IfSome m.window (λ w. o ≡ item_before w.list w.hi) → IfSome all.window (λ w. o ≡ last_left w)
    shows_last left o pick some more at = by_known (λ w. o ≡ last_left w) (λ known.
        last_is cmp order view ms (kept known) p m is (merged_window cmp (windows ms)) refl o (pick known) (left_is cmp order ms kept p m inside is left true some more known)
        (if_known (λ w. o ≡ item_before w.list w.hi) m.window (known_at ms p m known inside is) at))

-- sources that are all sought in
module _ {X : Type 0} (cmp : X → X → Ordering) (f : Window X → Window X) (none : f (whole []) ≡ whole []) where
  window_sought : (o : Option (Window X)) → window_or_empty (option_map f o) ≡ f (window_or_empty o)
  window_sought None = sym none
  window_sought (Some w) = refl

  pub windows_sought : (ms : List (Moved X)) → windows (map (sought f) ms) ≡ map f (windows ms)
  windows_sought [] = refl
  windows_sought (m ∷ ms) = ap (λ w. w ∷ windows (map (sought f) ms)) (window_sought m.window) ∙ ap (λ ws. f (window_or_empty m.window) ∷ ws) (windows_sought ms)

  pub known_sought : (ms : List (Moved X)) → are_known (map (sought f) ms) ≡ are_known ms
  known_sought [] = refl
  known_sought (m ∷ ms) = known_mapped f m.window (are_known (map (sought f) ms)) ∙ ap (all_some m.window) (known_sought ms)

  errors_sought : (ms : List (Moved X)) → map (λ (k : Moved X). moved_errors k) (map (sought f) ms) ≡ map (λ (k : Moved X). moved_errors k) ms
  errors_sought [] = refl
  errors_sought (m ∷ ms) = ap (λ es. moved_errors m ∷ es) (errors_sought ms)

  found_window : (k j : Bool) (b a : Window X) → j ≡ k → (k ≡ true → a ≡ f b) → (if j then Some a else None) ≡ option_map f (if k then Some b else None)
  found_window true true b a same h = ap Some (h refl)
  found_window true false b a same h = absurd (cc)
  found_window false true b a same h = absurd (cc)
  found_window false false b a same h = refl

  tables_sought : (ms : List (Moved X)) → sum_by (λ (k : Moved X). k.tables) (map (sought f) ms) ≡ sum_by (λ (k : Moved X). k.tables) ms
  tables_sought [] = refl
  tables_sought (m ∷ ms) = sum_by-cons (λ (k : Moved X). k.tables) (sought f m) (map (sought f) ms) ∙ ap (λ n. m.tables + n) (tables_sought ms) ∙ sym (sum_by-cons (λ (k : Moved X). k.tables) m ms)

  -- the merge of them is sought in
  pub merged_sought : (ms : List (Moved X)) → (are_known ms ≡ true → merged_window cmp (map f (windows ms)) ≡ f (merged_window cmp (windows ms))) → but_reads (merged_moved cmp None (map (sought f) ms)) ≡ but_reads (sought f (merged_moved cmp None ms))
  merged_sought ms is =
      moved_by (merged_moved cmp None (map (sought f) ms)) (sought f (merged_moved cmp None ms))
      (found_window (are_known ms) (are_known (map (sought f) ms)) (merged_window cmp (windows ms)) (merged_window cmp (windows (map (sought f) ms))) (known_sought ms) (λ known. ap (merged_window cmp) (windows_sought ms) ∙ is known))
      (ap errors_of (errors_sought ms)) refl (tables_sought ms) refl

-- sources that are seen but for their counts of frames
unread_moved : {S X : Type 0} (moved : S → Moved X) (ss : List S) → map (λ s. but_reads (moved s)) ss ≡ unread (map moved ss)
unread_moved moved [] = refl
unread_moved moved (s ∷ ss) = ap (λ ms. but_reads (moved s) ∷ ms) (unread_moved moved ss)

-- one source more was changed, and the next one was not yet
module _ {S A : Type 0} (see : S → A) (f : A → A) (old ss : List S) (k : ℕ) (s : S) (inside : k < length ss) (size : length ss ≡ length old) (is : s ≡ get_or ss k s) (so_far : map see ss ≡ changed_until f k (map see old)) where
  pub one_changed : (t : S) → see t ≡ f (see s) → map see (set ss k t) ≡ changed_until f (k + 1) (map see old)
  one_changed t now =
      let n = length-map old see in
      let at : see s ≡ get_or (changed_until f k (map see old)) k (see s) = ap see is ∙ sym (get_or-map see ss k s (see s) inside) ∙ ap (λ xs. get_or xs k (see s)) so_far in
      map-set see ss k t ∙ ap (λ xs. set xs k (see t)) so_far
      ∙ changed_next f (map see old) k (see s) (see t) (omega (arith, n, inside, size)) at now ∙ ap (λ m. changed_until f m (map see old)) (let e : suc k ≡ k + 1 = omega arith in e)

  pub still_first : see s ≡ get_or (map see old) k (see s)
  still_first = ap see is ∙ sym (get_or-map see ss k s (see s) inside) ∙ ap (λ xs. get_or xs k (see s)) so_far ∙ not_changed f (map see old) k (see s)

-- sources that were not moved
fresh_window : {X : Type 0} (cmp : X → X → Ordering) (o : Option (Window X)) → o ≡ Some (window_or_empty o) → IfSome o (IsFresh cmp) → IsFresh cmp (window_or_empty o)
fresh_window cmp o known h = if_known (IsFresh cmp) o known h

pub fresh_sources : {X : Type 0} (cmp : X → X → Ordering) (ms : List (Moved X)) → AllByRecursion (IsFreshSource cmp) ms → are_known ms ≡ true → AllByRecursion (IsFresh cmp) (windows ms)
fresh_sources cmp [] all known = tt
fresh_sources cmp (m ∷ ms) all known = let k = known_parts m.window (are_known ms) known in (fresh_window cmp m.window k.0 all.0, fresh_sources cmp ms all.1 k.1)

-- What the picks are made of, over sources whose windows may be unknown.
module _ {S X : Type 0} (cmp : X → X → Ordering) (order : IsTotalOrder cmp) (moved : S → Moved X) (ss : List S) where
  pub moved_at : (i : ℕ) (s : S) → i < length ss → s ≡ get_or ss i s → moved s ≡ get_or (map moved ss) i (moved s)
  moved_at i s inside is = ap moved is ∙ sym (get_or-map moved ss i s (moved s) inside)

  pub many_moved : length (map moved ss) ≡ length ss
  many_moved = length-map ss moved

  known_here : (i : ℕ) (s : S) → are_known (map moved ss) ≡ true → i < length ss → s ≡ get_or ss i s → (moved s).window ≡ Some (view (moved s))
  known_here i s known inside is = known_at (map moved ss) i (moved s) known (let n = many_moved in omega (arith, n, inside)) (moved_at i s inside is)

  module _ (i b : ℕ) (s t : S) (c o : Option X) (r : Bool) (inside : i < length ss) (there : b < length ss) (s_is : s ≡ get_or ss i s) (t_is : t ≡ get_or ss b t) where
    pub front_among : (are_known (map moved ss) ≡ true → IsFrontAmong cmp (windows (map moved ss)) i b) → IfSome (moved s).window (λ w. c ≡ slice_get w.list w.lo) → IfSome (moved t).window (λ w. o ≡ slice_get w.list w.lo) → r ≡ goes_before cmp c o
        → are_known (map moved ss) ≡ true → IsFrontAmong cmp (windows (map moved ss)) (i + 1) (cond r i b)
    front_among all is_c is_o told known =
        front_turn cmp order view (map moved ss) i b (moved s) (moved t) c o r (let n = many_moved in omega (arith, n, inside)) (all known) (moved_at i s inside s_is) (moved_at b t there t_is)
        (if_known (λ w. c ≡ slice_get w.list w.lo) (moved s).window (known_here i s known inside s_is) is_c)
        (if_known (λ w. o ≡ slice_get w.list w.lo) (moved t).window (known_here b t known there t_is) is_o) told

    pub back_among : (are_known (map moved ss) ≡ true → IsBackAmong cmp (windows (map moved ss)) i b) → IfSome (moved s).window (λ w. c ≡ item_before w.list w.hi) → IfSome (moved t).window (λ w. o ≡ item_before w.list w.hi) → r ≡ goes_after cmp c o
        → are_known (map moved ss) ≡ true → IsBackAmong cmp (windows (map moved ss)) (i + 1) (cond r i b)
    back_among all is_c is_o told known =
        back_turn cmp order view (map moved ss) i b (moved s) (moved t) c o r (let n = many_moved in omega (arith, n, inside)) (all known) (moved_at i s inside s_is) (moved_at b t there t_is)
        (if_known (λ w. c ≡ item_before w.list w.hi) (moved s).window (known_here i s known inside s_is) is_c)
        (if_known (λ w. o ≡ item_before w.list w.hi) (moved t).window (known_here b t known there t_is) is_o) told

  pub front_begins : are_known (map moved ss) ≡ true → IsFrontAmong cmp (windows (map moved ss)) 1 0
  front_begins known = front_start cmp order view (map moved ss)

  pub back_begins : are_known (map moved ss) ≡ true → IsBackAmong cmp (windows (map moved ss)) 1 0
  back_begins known = back_start cmp order view (map moved ss)

  pub front_found : (n place : ℕ) → n ≤ length ss → length ss ≤ n → (are_known (map moved ss) ≡ true → IsFrontAmong cmp (windows (map moved ss)) n place) → are_known (map moved ss) ≡ true → IsFrontPick cmp (windows (map moved ss)) place
  front_found n place short long all known = (let l = many_moved in front_done cmp order view (map moved ss) n place (omega (arith, l, short)) (omega (arith, l, long)) (all known))

  pub back_found : (n place : ℕ) → n ≤ length ss → length ss ≤ n → (are_known (map moved ss) ≡ true → IsBackAmong cmp (windows (map moved ss)) n place) → are_known (map moved ss) ≡ true → IsBackPick cmp (windows (map moved ss)) place
  back_found n place short long all known = (let l = many_moved in back_done cmp order view (map moved ss) n place (omega (arith, l, short)) (omega (arith, l, long)) (all known))

-- nothing is left to show of sources that are lost
pub lost_all : {X : Type 0} (cmp : X → X → Ordering) (ms : List (Moved X)) → are_known ms ≡ false → are_known ms ≡ true → AreMoved cmp (windows ms)
lost_all cmp ms lost known = absurd (let e = sym lost ∙ known in cc)

-- a source is lost
pub lost_source : {S X : Type 0} (moved : S → Moved X) (ss : List S) (i : ℕ) (t : S) → i < length ss → (moved t).window ≡ None → are_known (map moved (set ss i t)) ≡ false
lost_source moved ss i t inside none = ap are_known (map-set moved ss i t) ∙ lost_set (map moved ss) i (moved t) (let n = length-map ss moved in omega (arith, n, inside)) none

-- what the next source may fail by, the merge may, where those before it were changed
pub stop_first : {S X : Type 0} (cmp : X → X → Ordering) (order : IsTotalOrder cmp) (moved : S → Moved X) (f : Moved X → Moved X) (old ss : List S) (k : ℕ) (s : S) → k < length ss → length ss ≡ length old → s ≡ get_or ss k s → map (λ t. but_reads (moved t)) ss ≡ changed_until f k (map (λ t. but_reads (moved t)) old)
    → (may_fail : Error → Type 0) (e : Error) → MayStop may_fail (moved s) e → MayStop may_fail (merged_moved cmp None (map moved old)) e
stop_first {S = S} cmp order moved f old ss k s inside size is so_far may_fail e h =
    let see = λ (t : S). but_reads (moved t) in
    let n = length-map old see in
    subst (λ m. MayStop may_fail m e) (ap (λ ms. but_reads (merged_moved cmp None ms)) (unread_moved moved old) ∙ merged_unread cmp (map moved old))
    (stop_by cmp (map see old) k (see s) (omega (arith, n, inside, size)) (still_first see f old ss k s inside size is so_far) may_fail e h)

-- the next source is as it was, but for how many frames it asked for
pub same_tables : {S X : Type 0} (moved : S → Moved X) (f : Moved X → Moved X) (old ss : List S) (k : ℕ) (s : S) → k < length ss → length ss ≡ length old → s ≡ get_or ss k s → map (λ t. but_reads (moved t)) ss ≡ changed_until f k (map (λ t. but_reads (moved t)) old) → but_reads (moved s) ≡ but_reads (moved (get_or old k s))
same_tables {S = S} moved f old ss k s inside size is so_far =
    let see = λ (t : S). but_reads (moved t) in
    still_first see f old ss k s inside size is so_far ∙ get_or-map see old k s (see s) (omega (arith, inside, size))

-- How many frames are asked for by sources that are sought in one after the other: each asks for at most so many.
module _ {S X : Type 0} (moved : S → Moved X) (f : Moved X → ℕ) where
  abbrev pub all_reads : List S → ℕ
  all_reads ss = sum_by (λ (s : S). (moved s).reads) ss

  abbrev pub most_of : List S → ℕ
  most_of ss = sum_by (λ (s : S). f (moved s)) ss

  mapped_sum : (g : Moved X → ℕ) (ss : List S) → sum_by g (map moved ss) ≡ sum_by (λ s. g (moved s)) ss
  mapped_sum g [] = refl
  mapped_sum g (s ∷ ss) = sum_by-cons g (moved s) (map moved ss) ∙ ap (λ n. g (moved s) + n) (mapped_sum g ss) ∙ sym (sum_by-cons (λ (t : S). g (moved t)) s ss)

  -- none was sought in yet
  pub asked_none : (old : List S) → all_reads old + most_of (drop 0 old) ≤ all_reads old + most_of old
  asked_none [] = omega arith
  asked_none (s ∷ ss) = omega arith

  module _ (old ss : List S) (k : ℕ) (s t : S) (inside : k < length ss) (size : length ss ≡ length old) (is : s ≡ get_or ss k s) where
    reads_set : all_reads (set ss k t) + (moved s).reads ≡ all_reads ss + (moved t).reads
    reads_set = (let e = sum_by-set (λ (u : S). (moved u).reads) ss k t s inside in let d = ap (λ (u : S). (moved u).reads) is in omega (arith, e, d))

    -- one more was sought in
    pub asked_more : f (moved s) ≡ f (moved (get_or old k s)) → (moved t).reads ≤ (moved s).reads + f (moved s) → all_reads ss + most_of (drop k old) ≤ all_reads old + most_of old
        → all_reads (set ss k t) + most_of (drop (k + 1) old) ≤ all_reads old + most_of old
    asked_more same most so_far =
        let e = reads_set in
        let l = ap most_of (drop-cons old k s (omega (arith, inside, size))) in
        let c = sum_by-cons (λ (u : S). f (moved u)) (get_or old k s) (drop (suc k) old) in
        let n : most_of (drop (k + 1) old) ≡ most_of (drop (suc k) old) = ap (λ m. most_of (drop m old)) (let d : k + 1 ≡ suc k = omega arith in d) in
        omega (arith, e, l, c, n, same, most, so_far)

    pub asked_grows : (moved s).reads ≤ (moved t).reads → all_reads old ≤ all_reads ss → all_reads old ≤ all_reads (set ss k t)
    asked_grows less so_far = (let e = reads_set in omega (arith, e, less, so_far))

  -- what was asked for in all
  pub asked_all : (cmp : X → X → Ordering) (n rest : ℕ) (old ss : List S) → most_of old ≡ n → all_reads old ≤ all_reads ss → all_reads ss + rest ≤ all_reads old + most_of old → AsksAtMost n (merged_moved cmp None (map moved old)) (merged_moved cmp None (map moved ss))
  asked_all cmp n rest old ss is grows most =
      let a = mapped_sum (λ m. m.reads) old in
      let b = mapped_sum (λ m. m.reads) ss in
      record { grows = omega (arith, a, b, grows); most = omega (arith, a, b, is, most); none = tt }

-- each asks for at most one frame of a table, or for at most two
abbrev pub once : {X : Type 0} → Moved X → ℕ
once m = m.tables

abbrev pub twice : {X : Type 0} → Moved X → ℕ
twice m = 2 * m.tables

pub asked_once : {S X : Type 0} (moved : S → Moved X) (ss : List S) → most_of moved once ss ≡ sum_by (λ (m : Moved X). m.tables) (map moved ss)
asked_once {X = X} moved ss = sym (mapped_sum moved once (λ (m : Moved X). m.tables) ss)

pub asked_twice : {S X : Type 0} (moved : S → Moved X) (ss : List S) → most_of moved twice ss ≡ 2 * sum_by (λ (m : Moved X). m.tables) (map moved ss)
asked_twice moved [] = refl
asked_twice {S = S} {X = X} moved (s ∷ ss) =
    let a = sum_by-cons (λ (t : S). 2 * (moved t).tables) s ss in
    let b = sum_by-cons (λ (m : Moved X). m.tables) (moved s) (map moved ss) in
    let h = asked_twice moved ss in
    omega (arith, a, b, h)

-- The steps of a merge that no error has ended.
module _ {S X : Type 0} (cmp : X → X → Ordering) (order : IsTotalOrder cmp) (moved : S → Moved X) (ss : List S) (kept : are_known (map moved ss) ≡ true → AreMoved cmp (windows (map moved ss))) (ended : Option Error) (going : ended ≡ None) (all : Moved X) (whole_is : merged_moved cmp ended (map moved ss) ≡ all) where
  from_start : merged_moved cmp None (map moved ss) ≡ all
  from_start = ap (λ e. merged_moved cmp e (map moved ss)) (sym going) ∙ whole_is

  -- the frames that are asked for are counted
  pub asks_as : (most : ℕ → ℕ) (later : Option Error) (ts : List S) → AsksAtMost (most (merged_moved cmp None (map moved ss)).tables) (merged_moved cmp None (map moved ss)) (merged_moved cmp None (map moved ts)) → AsksAtMost (most all.tables) all (merged_moved cmp later (map moved ts))
  asks_as most later ts h = subst (λ (m : Moved X). AsksAtMost (most m.tables) m (merged_moved cmp later (map moved ts))) from_start (record { grows = h.grows; most = h.most; none = tt })

  no_items : (step : Step X) → IsStep step (merged_moved cmp None (map moved ss)) None (merged_moved cmp None (map moved ss)) → IsStep step all None all
  no_items step h = subst (λ m. IsStep step m None m) from_start h

  pub ends_first : length ss ≡ 0 → IsStep next all None all
  ends_first none = no_items next (first_empty cmp order (map moved ss) kept (length-map ss moved ∙ none))

  pub ends_last : length ss ≡ 0 → IsStep next_back all None all
  ends_last none = no_items next_back (last_empty cmp order (map moved ss) kept (length-map ss moved ∙ none))

  module _ (p : ℕ) (s : S) (inside : p < length ss) (is : s ≡ get_or ss p s) where
    there : p < length (map moved ss)
    there = let n = length-map ss moved in omega (arith, n, inside)

    here : moved s ≡ get_or (map moved ss) p (moved s)
    here = moved_at cmp order moved ss p s inside is

    pub none_first : (left : Bool) → (are_known (map moved ss) ≡ true → IsFrontPick cmp (windows (map moved ss)) p) → IfSome (moved s).window (λ w. left ≡ some_left w) → left ≡ false → IsStep next all None all
    none_first left pick some none = no_items next (first_none cmp order (map moved ss) kept p (moved s) there here left pick some none)

    pub none_last : (left : Bool) → (are_known (map moved ss) ≡ true → IsBackPick cmp (windows (map moved ss)) p) → IfSome (moved s).window (λ w. left ≡ some_left w) → left ≡ false → IsStep next_back all None all
    none_last left pick some none = no_items next_back (last_none cmp order (map moved ss) kept p (moved s) there here left pick some none)

    taken_by : (step : Step X) (t : S) (r : Option X) → IsStep step (merged_moved cmp None (map moved ss)) r (merged_moved cmp None (set (map moved ss) p (moved t))) → IsStep step all r (merged_moved cmp ended (map moved (set ss p t)))
    taken_by step t r h =
        subst (λ m. IsStep step m r (merged_moved cmp ended (map moved (set ss p t)))) from_start
        (subst (λ e. IsStep step (merged_moved cmp None (map moved ss)) r (merged_moved cmp e (map moved (set ss p t)))) (sym going)
        (subst (λ ns. IsStep step (merged_moved cmp None (map moved ss)) r (merged_moved cmp None ns)) (sym (map-set moved ss p t)) h))

    pub takes_first : (t : S) (r : Option X) (left : Bool) → (are_known (map moved ss) ≡ true → IsFrontPick cmp (windows (map moved ss)) p) → IfSome (moved s).window (λ w. left ≡ some_left w) → left ≡ true → IsStep step_front (moved s) r (moved t)
        → IsStep next all r (merged_moved cmp ended (map moved (set ss p t)))
    takes_first t r left pick some more h = taken_by next t r (first_step cmp order (map moved ss) kept p (moved s) there here (moved t) r left pick some more h)

    pub takes_last : (t : S) (r : Option X) (left : Bool) → (are_known (map moved ss) ≡ true → IsBackPick cmp (windows (map moved ss)) p) → IfSome (moved s).window (λ w. left ≡ some_left w) → left ≡ true → IsStep step_back (moved s) r (moved t)
        → IsStep next_back all r (merged_moved cmp ended (map moved (set ss p t)))
    takes_last t r left pick some more h = taken_by next_back t r (last_step cmp order (map moved ss) kept p (moved s) there here (moved t) r left pick some more h)

    kept_by : (t : S) → (are_known (set (map moved ss) p (moved t)) ≡ true → AreMoved cmp (windows (set (map moved ss) p (moved t)))) → are_known (map moved (set ss p t)) ≡ true → AreMoved cmp (windows (map moved (set ss p t)))
    kept_by t h = subst (λ ns. are_known ns ≡ true → AreMoved cmp (windows ns)) (sym (map-set moved ss p t)) h

    pub keeps_first : (t : S) (r : Option X) → (are_known (map moved ss) ≡ true → IsFrontPick cmp (windows (map moved ss)) p) → IsStep step_front (moved s) r (moved t) → are_known (map moved (set ss p t)) ≡ true → AreMoved cmp (windows (map moved (set ss p t)))
    keeps_first t r pick h = kept_by t (first_kept cmp order (map moved ss) kept p (moved s) there here (moved t) r pick h)

    pub keeps_last : (t : S) (r : Option X) → (are_known (map moved ss) ≡ true → IsBackPick cmp (windows (map moved ss)) p) → IsStep step_back (moved s) r (moved t) → are_known (map moved (set ss p t)) ≡ true → AreMoved cmp (windows (map moved (set ss p t)))
    keeps_last t r pick h = kept_by t (last_kept cmp order (map moved ss) kept p (moved s) there here (moved t) r pick h)

    pub keeps_lost : (t : S) → (moved t).window ≡ None → are_known (map moved (set ss p t)) ≡ true → AreMoved cmp (windows (map moved (set ss p t)))
    keeps_lost t none = kept_by t (lost_kept cmp order (map moved ss) kept p (moved s) there here (moved t) none)

    pub asks_one : (later : Option Error) (t : S) → AsksAtMost (min 1 (moved s).tables) (moved s) (moved t) → AsksAtMost (min 1 all.tables) all (merged_moved cmp later (map moved (set ss p t)))
    asks_one later t h =
        let a = sum_by-set (λ (m : Moved X). m.reads) (map moved ss) p (moved t) (moved s) there in
        let b = ap (λ (m : Moved X). m.reads) here in
        let d = ap (λ ms. sum_by (λ (m : Moved X). m.reads) ms) (map-set moved ss p t) in
        let e = one_of_sum (λ (m : Moved X). m.tables) (map moved ss) p (moved s) there here in
        let grows = h.grows in
        let most = h.most in
        asks_as (min 1) later (set ss p t) (record { grows = omega (arith, a, b, d, grows); most = omega (arith, a, b, d, e, most); none = tt })

    pub stops_by : (may_fail : Error → Type 0) (e : Error) → MayStop may_fail (moved s) e → MayStop may_fail all e
    stops_by may_fail e h = subst (λ m. MayStop may_fail m e) from_start (stop_by cmp (map moved ss) p (moved s) there here may_fail e h)

  -- all sources were sought in
  module _ (f : Window X → Window X) (ts : List S) (none : f (whole []) ≡ whole []) (now : map (λ t. but_reads (moved t)) ts ≡ map (sought f) (map (λ s. but_reads (moved s)) ss)) where
    all_sought : unread (map moved ts) ≡ map (sought f) (unread (map moved ss))
    all_sought = sym (unread_moved moved ts) ∙ now ∙ ap (map (sought f)) (unread_moved moved ss)

    pub seeks_merge : (are_known (map moved ss) ≡ true → merged_window cmp (map f (windows (map moved ss))) ≡ f (merged_window cmp (windows (map moved ss)))) → IsSought f all (merged_moved cmp ended (map moved ts))
    seeks_merge is =
        let ms = map moved ss in
        ap (λ e. but_reads (merged_moved cmp e (map moved ts))) going ∙ sym (merged_unread cmp (map moved ts)) ∙ ap (λ ks. but_reads (merged_moved cmp None ks)) all_sought
        ∙ merged_sought cmp f none (unread ms) (λ known. subst (λ ws. merged_window cmp (map f ws) ≡ f (merged_window cmp ws)) (sym (windows_unread ms)) (is (sym (known_unread ms) ∙ known)))
        ∙ ap (sought f) (merged_unread cmp ms) ∙ ap (λ m. sought f (but_reads m)) from_start

    pub seeks_kept : (are_known (map moved ss) ≡ true → AreMoved cmp (map f (windows (map moved ss)))) → are_known (map moved ts) ≡ true → AreMoved cmp (windows (map moved ts))
    seeks_kept is known =
        let ms = map moved ss in
        let ns = map moved ts in
        let windows_are : windows ns ≡ map f (windows ms) = sym (windows_unread ns) ∙ ap (λ ks. windows ks) all_sought ∙ windows_sought cmp f none (unread ms) ∙ ap (map f) (windows_unread ms) in
        let same : are_known ns ≡ are_known ms = sym (known_unread ns) ∙ ap (λ ks. are_known ks) all_sought ∙ known_sought cmp f none (unread ms) ∙ known_unread ms in
        subst (AreMoved cmp) (sym windows_are) (is (sym same ∙ known))

  pub stops_merge : (may_fail : Error → Type 0) (e : Error) → MayStop may_fail (merged_moved cmp None (map moved ss)) e → MayStop may_fail all e
  stops_merge may_fail e h = subst (λ m. MayStop may_fail m e) from_start h
