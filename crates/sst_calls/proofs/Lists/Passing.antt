-- Scans over a window of a run: over entries of the block at an end, on to the next block, and one after the other.
use Rattle.std.proofs.Common.{◌≡◌, ◌∙◌, ℕ, suc, ◌+◌, ◌-◌, ◌≤◌, ◌<◌, Bool, true, false, List, [], ◌++◌, length, take, reverse, refl, sym, ap, arith, inl, inr, Option, Some, add-one, append_assoc}
use Rattle.std.specs.Prelude.{slice_get, ◌⊎◌}
use Rattle.std.proofs.lemmas.Bool.{cases_lt}
use Rattle.std.proofs.lemmas.List.{append-nil, reverse-append, reverse-reverse}
use Rattle.std.proofs.lemmas.Option.{slice_get_within, same_Some}
use Rattle.sstable_blocks.specs.Prelude.{Entry}
use Rattle.sstable_blocks.specs.Blocks.{joined}
use Rattle.sstable_blocks.specs.BetweenLaws.{item_found}
use Rattle.sst_calls.specs.Batches.{IsBatch, IsCut, IsOtherEndKept, Lists, Passes}
use Rattle.sst_calls.specs.Blocks.{IsPlaceOf}
use Rattle.sst_calls.specs.Windows.{IsUpToPlace, IsWindow, left_in}
use Rattle.sst_calls.specs.declared.data_block.SstPlace.{SstPlace}
use Rattle.sst_calls.specs.declared.window.SstWindow.{SstWindow}
use Rattle.sstable_blocks.specs.JoinedLaws.{before_next}
use Rattle.sst_calls.proofs.Lists.BlockWindows.{between, between_none, place_rises, split_between, within_block}
use Rattle.sst_calls.proofs.Lists.Listed.{lists_more, lists_none, none_listed}

no_cut : (back : Bool) (xs : List Entry) → IsCut back xs [] xs
no_cut false xs = refl
no_cut true xs = sym (append-nil xs)

no_move : (back : Bool) (w : SstWindow) → IsOtherEndKept back w w
no_move false w = (refl, refl)
no_move true w = (refl, refl)

-- nothing is passed
pub passes_none : (bytes : List ℕ) (blocks : List (List Entry)) (below : Option ℕ) (back : Bool) (w : SstWindow) (old : List SstPlace) (count : ℕ) → IsWindow blocks w → count ≤ length old
    → Passes bytes blocks below back w w old old count count
passes_none bytes blocks below back w old count window room = record {
  window = window;
  other = no_move back w;
  passed = [];
  cut = no_cut back (left_in blocks w);
  lists = lists_none bytes below old count room;
}

both_cut : (back : Bool) (old mid new xs ys : List Entry) → IsCut back old xs mid → IsCut back mid ys new → IsCut back old (xs ++ ys) new
both_cut false old mid new xs ys first second = first ∙ ap (λ zs. xs ++ zs) second ∙ sym (append_assoc xs ys new)
both_cut true old mid new xs ys first second =
    first ∙ ap (λ zs. zs ++ reverse xs) second ∙ append_assoc new (reverse ys) (reverse xs) ∙ sym (ap (λ zs. new ++ zs) (reverse-append xs ys))

both_kept : (back : Bool) (u v w : SstWindow) → IsOtherEndKept back u v → IsOtherEndKept back v w → IsOtherEndKept back u w
both_kept false u v w first second = (second.0 ∙ first.0, second.1 ∙ first.1)
both_kept true u v w first second = (second.0 ∙ first.0, second.1 ∙ first.1)

-- a scan, and another from where it ended
pub passes_more : (bytes : List ℕ) (blocks : List (List Entry)) (below : Option ℕ) (back : Bool) (u v w : SstWindow) (old mid new : List SstPlace) (a b c : ℕ)
    → Passes bytes blocks below back u v old mid a b → Passes bytes blocks below back v w mid new b c → Passes bytes blocks below back u w old new a c
passes_more bytes blocks below back u v w old mid new a b c first second = record {
  window = second.window;
  other = both_kept back u v w first.other second.other;
  passed = first.passed ++ second.passed;
  cut = both_cut back (left_in blocks u) (left_in blocks v) (left_in blocks w) first.passed second.passed first.cut second.cut;
  lists = lists_more bytes below first.passed second.passed old mid new a b c first.lists second.lists;
}

-- a scan from the first place on is a batch
pub batch_from : (bytes : List ℕ) (blocks : List (List Entry)) (below : Option ℕ) (back : Bool) (u w : SstWindow) (old new : List SstPlace) (count : ℕ) → Passes bytes blocks below back u w old new 0 count
    → (count ≡ length old) ⊎ (left_in blocks w ≡ []) → IsBatch bytes blocks below back u w old new count
batch_from bytes blocks below back u w old new count scan all = record {
  window = scan.window;
  other = scan.other;
  passed = scan.passed;
  cut = scan.cut;
  listed = scan.lists.more old [] refl (none_listed (IsPlaceOf bytes) old);
  count_is = scan.lists.count ∙ omega arith;
  room = scan.lists.room;
  all = all;
}

-- an index is not after one that is not after a place
pub up_to_less : (b i j c k : ℕ) → i ≤ j → IsUpToPlace b j c k → IsUpToPlace b i c k
up_to_less b i j c k less (inl before) = inl before
up_to_less b i j c k less (inr same) = inr (same.0, omega (arith, less, same.1))

pub up_to_more : (b i c j k : ℕ) → j ≤ k → IsUpToPlace b i c j → IsUpToPlace b i c k
up_to_more b i c j k less (inl before) = inl before
up_to_more b i c j k less (inr same) = inr (same.0, omega (arith, less, same.1))

-- the entries of the first block up to an index
pub front_passes : (bytes : List ℕ) (blocks : List (List Entry)) (below : Option ℕ) (w : SstWindow) (xs : List Entry) (t : ℕ) (old new : List SstPlace) (a b : ℕ)
    → IsWindow blocks w → slice_get blocks w.first_block ≡ Some xs → w.first_index ≤ t → t ≤ length xs → IsUpToPlace w.first_block t w.end_block w.end_index
    → Lists bytes below (between xs w.first_index t) old new a b → Passes bytes blocks below false w (record w { first_index = t }) old new a b
front_passes bytes blocks below w xs t old new a b window at less inside up lists =
    let rises = place_rises blocks w.first_block t w.end_block w.end_index xs at inside up in
    let n = length (joined (take w.first_block blocks)) in
    let m = length (joined (take w.end_block blocks)) in
    record {
      window = record { first = record { items = xs; there = at; inside = inside }; end = window.end; uncrossed = up };
      other = (refl, refl);
      passed = between xs w.first_index t;
      cut = split_between (joined blocks) (n + w.first_index) (n + t) (m + w.end_index) (omega (arith, less)) rises
          ∙ ap (λ (zs : List Entry). zs ++ between (joined blocks) (n + t) (m + w.end_index)) (within_block blocks w.first_block w.first_index t xs at less inside);
      lists = lists;
    }

-- a window with what is left of it
pub record Moves (blocks : List (List Entry)) (w : SstWindow) (left : List Entry) : Type 0 where
  pub window : IsWindow blocks w
  pub is : left_in blocks w ≡ left

-- from the end of the first block on to the next one
pub next_block : (blocks : List (List Entry)) (w : SstWindow) (xs : List Entry) → IsWindow blocks w → slice_get blocks w.first_block ≡ Some xs → w.first_index ≡ length xs → w.first_block < w.end_block
    → Moves blocks (record w { first_block = w.first_block + 1; first_index = 0 }) (left_in blocks w)
next_block blocks w xs window at whole less =
    let last = slice_get_within blocks w.end_block window.end.items window.end.there in
    let next = item_found blocks (w.first_block + 1) (omega (arith, less, last)) in
    let n = length (joined (take w.first_block blocks)) in
    let m = length (joined (take w.end_block blocks)) in
    let same : length (joined (take (w.first_block + 1) blocks)) + 0 ≡ n + w.first_index =
    omega (arith, ap (λ k. length (joined (take k blocks))) (add-one w.first_block), before_next blocks w.first_block xs at, whole) in
    record {
      window = record {
        first = record { items = next.0; there = next.1; inside = omega arith };
        end = window.end;
        uncrossed = up;
      };
      is = ap (λ k. between (joined blocks) k (m + w.end_index)) same;
    }
  where
    up : IsUpToPlace (w.first_block + 1) 0 w.end_block w.end_index
    up = elim (cases_lt (w.first_block + 1) w.end_block) [
      | inl before ↦ inl before
      | inr past ↦ inr (omega (arith, less, past), omega arith)
    ]

pub front_next : (bytes : List ℕ) (blocks : List (List Entry)) (below : Option ℕ) (w : SstWindow) (xs : List Entry) (old : List SstPlace) (count : ℕ)
    → IsWindow blocks w → slice_get blocks w.first_block ≡ Some xs → w.first_index ≡ length xs → w.first_block < w.end_block → count ≤ length old
    → Passes bytes blocks below false w (record w { first_block = w.first_block + 1; first_index = 0 }) old old count count
front_next bytes blocks below w xs old count window at whole less room =
    let next = next_block blocks w xs window at whole less in
    record { window = next.window; other = (refl, refl); passed = []; cut = sym next.is; lists = lists_none bytes below old count room }

-- nothing is left between the same place twice
pub none_left : (blocks : List (List Entry)) (w : SstWindow) → w.first_block ≡ w.end_block → w.first_index ≡ w.end_index → left_in blocks w ≡ []
none_left blocks w block index =
    let n = ap (λ k. length (joined (take k blocks))) block in
    between_none (joined blocks) (length (joined (take w.first_block blocks)) + w.first_index) (length (joined (take w.end_block blocks)) + w.end_index) (omega (arith, n, index))

-- the entries of the last block down to an index
pub back_passes : (bytes : List ℕ) (blocks : List (List Entry)) (below : Option ℕ) (w : SstWindow) (xs : List Entry) (t : ℕ) (old new : List SstPlace) (a b : ℕ)
    → IsWindow blocks w → slice_get blocks w.end_block ≡ Some xs → t ≤ w.end_index → w.end_index ≤ length xs → IsUpToPlace w.first_block w.first_index w.end_block t
    → Lists bytes below (reverse (between xs t w.end_index)) old new a b → Passes bytes blocks below true w (record w { end_index = t }) old new a b
back_passes bytes blocks below w xs t old new a b window at less inside up lists =
    let rises = place_rises blocks w.first_block w.first_index w.end_block t window.first.items window.first.there window.first.inside up in
    let n = length (joined (take w.first_block blocks)) in
    let m = length (joined (take w.end_block blocks)) in
    record {
      window = record { first = window.first; end = record { items = xs; there = at; inside = omega (arith, less, inside) }; uncrossed = up };
      other = (refl, refl);
      passed = reverse (between xs t w.end_index);
      cut = split_between (joined blocks) (n + w.first_index) (m + t) (m + w.end_index) rises (omega (arith, less))
          ∙ ap (λ (zs : List Entry). between (joined blocks) (n + w.first_index) (m + t) ++ zs) (within_block blocks w.end_block t w.end_index xs at less inside ∙ sym (reverse-reverse (between xs t w.end_index)));
      lists = lists;
    }

-- from the start of the last block on to the one before it
pub back_next : (bytes : List ℕ) (blocks : List (List Entry)) (below : Option ℕ) (w : SstWindow) (xs : List Entry) (old : List SstPlace) (count : ℕ)
    → IsWindow blocks w → slice_get blocks (w.end_block - 1) ≡ Some xs → w.end_index ≡ 0 → w.first_block < w.end_block → count ≤ length old
    → Passes bytes blocks below true w (record w { end_block = w.end_block - 1; end_index = length xs }) old old count count
back_next bytes blocks below w xs old count window at none less room =
    let n = length (joined (take w.first_block blocks)) in
    let m = length (joined (take w.end_block blocks)) in
    let back : suc (w.end_block - 1) ≡ w.end_block = omega (arith, less) in
    let same : length (joined (take (w.end_block - 1) blocks)) + length xs ≡ m + w.end_index =
    omega (arith, ap (λ k. length (joined (take k blocks))) back, before_next blocks (w.end_block - 1) xs at, none) in
    record {
      window = record {
        first = window.first;
        end = record { items = xs; there = at; inside = omega arith };
        uncrossed = up;
      };
      other = (refl, refl);
      passed = [];
      cut = ap (λ k. between (joined blocks) (n + w.first_index) k) (sym same) ∙ sym (append-nil _);
      lists = lists_none bytes below old count room;
    }
  where
    within : w.first_block ≡ w.end_block - 1 → w.first_index ≤ length xs
    within e =
        let same : window.first.items ≡ xs = same_Some window.first.items xs (sym window.first.there ∙ ap (λ k. slice_get blocks k) e ∙ at) in
        omega (arith, window.first.inside, ap (λ (zs : List Entry). length zs) same)

    up : IsUpToPlace w.first_block w.first_index (w.end_block - 1) (length xs)
    up = elim (cases_lt w.first_block (w.end_block - 1)) [
      | inl before ↦ inl before
      | inr past ↦ (let same : w.first_block ≡ w.end_block - 1 = omega (arith, less, past) in inr (same, within same))
    ]
