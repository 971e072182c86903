-- Windows of a run of one block.
use Rattle.std.proofs.Common.{◌≡◌, ◌∙◌, ℕ, zero, suc, ◌≤◌, List, [], ◌∷◌, length, refl, sym, ap, arith, inl, inr, Some}
use Rattle.std.specs.Prelude.{slice_get}
use Rattle.sstable_blocks.specs.Prelude.{Entry}
use Rattle.sst_calls.specs.Windows.{IsPlaceIn, IsUpToPlace, IsWindow, IsWindowIn}
use Rattle.sst_calls.specs.declared.window.SstWindow.{SstWindow}

-- the one block
only_block : (items xs : List Entry) (block : ℕ) → slice_get (items ∷ []) block ≡ Some xs → (block ≡ 0) × (items ≡ xs)
only_block items xs zero at = (refl, cc (at))
only_block items xs (suc block) at = absurd (cc)

at_block : (items : List Entry) (block index : ℕ) → block ≡ 0 → index ≤ length items → IsPlaceIn (items ∷ []) block index
at_block items block index first inside = record { items = items; there = ap (λ n. slice_get (items ∷ []) n) first; inside = inside }

-- a window of the block is one of the run, and the other way round
pub window_of_one : (items : List Entry) (len : ℕ) (w : SstWindow) → len ≡ length items → IsWindowIn len w → IsWindow (items ∷ []) w
window_of_one items len w size window = record {
  first = at_block items w.first_block w.first_index window.first (omega (arith, window.uncrossed, window.inside, size));
  end = at_block items w.end_block w.end_index window.end (omega (arith, window.inside, size));
  uncrossed = inr (window.first ∙ sym window.end, window.uncrossed);
}

uncrossed_in : (b i c j : ℕ) → b ≡ 0 → c ≡ 0 → IsUpToPlace b i c j → i ≤ j
uncrossed_in b i c j first end (inl less) = absurd (omega (arith, first, end, less))
uncrossed_in b i c j first end (inr same) = same.1

pub one_of_window : (items : List Entry) (len : ℕ) (w : SstWindow) → len ≡ length items → IsWindow (items ∷ []) w → IsWindowIn len w
one_of_window items len w size window =
    let first = only_block items window.first.items w.first_block window.first.there in
    let end = only_block items window.end.items w.end_block window.end.there in
    record {
      first = first.0;
      end = end.0;
      uncrossed = uncrossed_in w.first_block w.first_index w.end_block w.end_index first.0 end.0 window.uncrossed;
      inside = omega (arith, size, window.end.inside, ap (λ (xs : List Entry). length xs) end.1);
    }
