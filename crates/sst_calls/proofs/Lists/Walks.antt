-- Walks over a window of a run: from the end of a block on to the next one, and over the first entry that is left.
use Rattle.std.proofs.Common.{◌≡◌, ◌∙◌, ℕ, suc, ◌+◌, ◌≤◌, ◌<◌, List, [], ◌∷◌, length, map, take, sym, ap, arith, inl, inr, None, Some, add-one}
use Rattle.std.specs.Prelude.{slice_get, ◌⊎◌}
use Rattle.std.proofs.lemmas.Option.{same_Some}
use Rattle.sstable_blocks.specs.Prelude.{Entry}
use Rattle.sstable_blocks.specs.Blocks.{joined}
use Rattle.sstable_blocks.specs.JoinedLaws.{before_next}
use Rattle.sst_sources.specs.Sources.{Left, TakesFirst}
use Rattle.sst_calls.specs.Placed.{PlacedEntry, placed_blocks, placed_left, placed_source}
use Rattle.sst_calls.specs.Windows.{IsUpToPlace, IsWindow, blocks_in, count_before, left_in}
use Rattle.sst_calls.specs.Walks.{walk_left}
use Rattle.sst_calls.specs.declared.walk.Walk.{Walk}
use Rattle.sst_calls.specs.declared.window.SstWindow.{SstWindow}
use Rattle.sst_calls.proofs.Lists.BlockWindows.{between, between_front, place_rises}
use Rattle.sst_calls.proofs.Lists.Passing.{front_next}
use Rattle.sst_calls.proofs.Lists.PlacedLists.{blocks_at, left_entries, placed_entry}

-- the first place is within its block
first_inside : (blocks : List (List Entry)) (w : SstWindow) (xs : List Entry) → IsWindow blocks w → slice_get blocks w.first_block ≡ Some xs → w.first_index ≤ length xs
first_inside blocks w xs window at =
    let same : window.first.items ≡ xs = same_Some window.first.items xs (sym window.first.there ∙ at) in
    omega (arith, window.first.inside, ap (λ (zs : List Entry). length zs) same)

abbrev source : List PlacedEntry → Left PlacedEntry
source xs = record { list = Some xs; most = length xs; errors = Some []; ended = None }

abbrev pub next_window : SstWindow → SstWindow
next_window w = record w { first_block = w.first_block + 1; first_index = 0 }

module _ (blocks : List (List Entry)) (w : SstWindow) (xs : List Entry) (window : IsWindow blocks w) (at : slice_get blocks w.first_block ≡ Some xs) where
  module _ (whole : length xs ≤ w.first_index) (less : w.first_block < w.end_block) where
    -- the next block begins where this one ends
    pub next_is : IsWindow blocks (next_window w)
    next_is =
        let inside = first_inside blocks w xs window at in
        (front_next [] blocks None w xs [] 0 window at (omega (arith, inside, whole)) less (omega arith)).window

    pub next_left : (run : ℕ) (bytes : List ℕ) → placed_source run bytes blocks (next_window w) ≡ placed_source run bytes blocks w
    next_left run bytes =
        let inside = first_inside blocks w xs window at in
        let next = before_next blocks w.first_block xs at in
        let k = ap (λ n. length (joined (take n blocks))) (add-one w.first_block) in
        let same : count_before blocks (w.first_block + 1) 0 ≡ count_before blocks w.first_block w.first_index = omega (arith, inside, whole, next, k) in
        ap (λ n. source (between (joined (placed_blocks run bytes 0 blocks)) n (count_before blocks w.end_block w.end_index))) same

  module _ (settled : (w.end_block ≤ w.first_block) ⊎ (w.first_index < length xs)) (more : (w.first_block < w.end_block) ⊎ (w.first_index < w.end_index)) where
    -- else one is left in the first block, and the place after it is one of the window
    pub up_after : IsUpToPlace w.first_block (w.first_index + 1) w.end_block w.end_index
    up_after = elim window.uncrossed [
      | inl before ↦ inl before
      | inr same ↦ elim more [
        | inl less ↦ inl less
        | inr index ↦ inr (same.0, omega (arith, index))
      ]
    ]

    here_inside : w.first_block ≡ w.end_block → w.first_index < w.end_index → w.first_index < length xs
    here_inside same index =
        let end : window.end.items ≡ xs = same_Some window.end.items xs (sym window.end.there ∙ ap (slice_get blocks) (sym same) ∙ at) in
        omega (arith, index, window.end.inside, ap (λ (zs : List Entry). length zs) end)

    pub some_here : w.first_index < length xs
    some_here = elim settled [
      | inl last ↦ elim window.uncrossed [
        | inl before ↦ absurd (omega (arith, before, last))
        | inr same ↦ elim more [
          | inl less ↦ absurd (omega (arith, less, last))
          | inr index ↦ here_inside same.0 index
        ]
      ]
      | inr here ↦ here
    ]

    abbrev pub window_past : SstWindow
    window_past = record w { first_index = w.first_index + 1 }

    pub past_is : IsWindow blocks window_past
    past_is = record {
      first = record { items = xs; there = at; inside = (let here = some_here in omega (arith, here)) };
      end = window.end;
      uncrossed = up_after;
    }

    -- the first entry that is left
    pub past_left : (run : ℕ) (bytes : List ℕ) (e : Entry) → slice_get xs w.first_index ≡ Some e
        → placed_left run bytes blocks w ≡ placed_entry run bytes w.first_block (w.first_index + 1) e ∷ placed_left run bytes blocks window_past
    past_left run bytes e there =
        let all = joined (placed_blocks run bytes 0 blocks) in
        let lo = count_before blocks w.first_block w.first_index in
        let hi = count_before blocks w.end_block w.end_index in
        let here = some_here in
        let rises = place_rises blocks w.first_block (w.first_index + 1) w.end_block w.end_index xs at (omega (arith, here)) up_after in
        let found = blocks_at run bytes 0 blocks w.first_block w.first_index xs e at there in
        let n : suc lo ≡ count_before blocks w.first_block (w.first_index + 1) = omega arith in
        let z : 0 + w.first_block ≡ w.first_block = omega arith in
        let i : suc w.first_index ≡ w.first_index + 1 = omega arith in
        between_front all lo hi (placed_entry run bytes (0 + w.first_block) (suc w.first_index) e) found (omega (arith, rises))
        ∙ ap (λ k. placed_entry run bytes (0 + w.first_block) (suc w.first_index) e ∷ between all k hi) n
        ∙ ap (λ b. placed_entry run bytes b (suc w.first_index) e ∷ placed_left run bytes blocks window_past) z
        ∙ ap (λ k. placed_entry run bytes w.first_block k e ∷ placed_left run bytes blocks window_past) i

    pub past_takes : (run : ℕ) (bytes : List ℕ) (e : Entry) → slice_get xs w.first_index ≡ Some e
        → TakesFirst (placed_source run bytes blocks w) (Some (placed_entry run bytes w.first_block (w.first_index + 1) e)) (placed_source run bytes blocks window_past)
    past_takes run bytes e there =
        let left = past_left run bytes e there in
        let n : length (placed_left run bytes blocks w) ≡ suc (length (placed_left run bytes blocks window_past)) = ap (λ (v : List PlacedEntry). length v) left in
        (ap Some left, omega (arith, n))

-- the entries that a walk has left, without where they are
abbrev entries_left : Walk → List Entry
entries_left w = left_in (blocks_in w.bytes.now w.handles) w.window

without_places : (w : Walk) → map (λ (p : PlacedEntry). p.entry) (placed_left 0 w.bytes.now (blocks_in w.bytes.now w.handles) w.window) ≡ entries_left w
without_places w = left_entries 0 w.bytes.now (blocks_in w.bytes.now w.handles) w.window

-- a step takes the first of them, if there is one
pub entry_taken : (old new : Walk) (x : PlacedEntry) → TakesFirst (walk_left 0 old) (Some x) (walk_left 0 new) → entries_left old ≡ x.entry ∷ entries_left new
entry_taken old new x takes =
    sym (without_places old) ∙ ap (λ (v : List PlacedEntry). map (λ (p : PlacedEntry). p.entry) v) (same_Some _ _ takes.0) ∙ ap (λ v. x.entry ∷ v) (without_places new)

pub none_taken : (old new : Walk) → TakesFirst (walk_left 0 old) None (walk_left 0 new) → (entries_left old ≡ []) × (entries_left new ≡ [])
none_taken old new takes =
    let entries = λ (v : List PlacedEntry). map (λ (p : PlacedEntry). p.entry) v in
    (sym (without_places old) ∙ ap entries takes.1, sym (without_places new) ∙ ap entries (same_Some _ _ takes.0 ∙ takes.1))
