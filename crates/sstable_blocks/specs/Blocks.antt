-- Blocks of a run: a list cut into parts.
use Rattle.std.specs.Prelude.{ℕ, ◌-◌, ◌<◌, ◌≤◌, List, [], ◌∷◌, ◌++◌, length, take, drop}

-- the blocks, one after the other
abbrev pub joined : {X : Type 0} → List (List X) → List X
joined [] = []
joined (block ∷ blocks) = block ++ joined blocks

-- a block is not empty
abbrev pub IsNotEmpty : {X : Type 0} → List X → Type 0
IsNotEmpty block = 1 ≤ length block

-- cuts rise strictly, from above a place on, and are below an end
abbrev pub CutsFit : ℕ → ℕ → List ℕ → Type 0
CutsFit start end [] = Unit {0}
CutsFit start end (cut ∷ cuts) = (start < cut) × (cut < end) × CutsFit cut end cuts

-- the blocks between a place, the cuts, and the end of a list
abbrev pub blocks_from : {X : Type 0} → ℕ → List ℕ → List X → List (List X)
blocks_from start [] items = drop start items ∷ []
blocks_from start (cut ∷ cuts) items = take (cut - start) (drop start items) ∷ blocks_from cut cuts items

-- a list, cut: each block has the items between two neighbouring cuts
abbrev pub blocks_of : {X : Type 0} → List ℕ → List X → List (List X)
blocks_of cuts items = blocks_from 0 cuts items
