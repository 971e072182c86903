-- The blocks of a list, joined, are the list.
use Rattle.std.proofs.Common.{◌≡◌, ℕ, ◌+◌, ◌-◌, ◌<◌, List, [], ◌∷◌, ◌++◌, length, take, drop, arith, sym, ◌∙◌, ap, length-drop}
use Rattle.std.specs.List.{AllByRecursion}
use Rattle.std.proofs.lemmas.List.{append-nil, length-take-le, take-append-drop, drop-drop}
use Rattle.sstable_blocks.specs.Blocks.{joined, IsNotEmpty, CutsFit, blocks_from}

-- cuts that fit, of a list that goes on after them
abbrev pub CutsLeft : ℕ → ℕ → List ℕ → Type 0
CutsLeft start end [] = start < end
CutsLeft start end (cut ∷ cuts) = (start < cut) × CutsLeft cut end cuts

pub cuts_left : (start end : ℕ) (cuts : List ℕ) → start < end → CutsFit start end cuts → CutsLeft start end cuts
cuts_left start end [] some h = some
cuts_left start end (cut ∷ cuts) some h = (h.0, cuts_left cut end cuts h.1 h.2)

-- a number above which cuts rise is below the end
pub cuts_below : (start end : ℕ) (cuts : List ℕ) → CutsLeft start end cuts → start < end
cuts_below start end [] h = h
cuts_below start end (cut ∷ cuts) h = let k = cuts_below cut end cuts h.1 in omega arith

module _ {X : Type 0} where
  -- blocks from an index on, joined, are the list from there on
  pub joined-blocks_from : (items : List X) (start : ℕ) (cuts : List ℕ) → CutsLeft start (length items) cuts → joined (blocks_from start cuts items) ≡ drop start items
  joined-blocks_from items start [] h = append-nil (drop start items)
  joined-blocks_from items start (cut ∷ cuts) h =
      let n : start + (cut - start) ≡ cut = omega arith in
      ap (λ xs. take (cut - start) (drop start items) ++ xs) (joined-blocks_from items cut cuts h.1 ∙ ap (λ k. drop k items) (sym n) ∙ sym (drop-drop (cut - start) start items))
      ∙ take-append-drop (cut - start) (drop start items)

  -- none of them is empty
  pub blocks_from-some : (items : List X) (start : ℕ) (cuts : List ℕ) → CutsLeft start (length items) cuts → AllByRecursion IsNotEmpty (blocks_from start cuts items)
  blocks_from-some items start [] h = (let l = length-drop start items in omega arith, tt)
  blocks_from-some items start (cut ∷ cuts) h =
      let below = cuts_below cut (length items) cuts h.1 in
      let l = length-drop start items in
      let k : length (take (cut - start) (drop start items)) ≡ cut - start = length-take-le (cut - start) (drop start items) (omega arith) in
      (omega arith, blocks_from-some items cut cuts h.1)
