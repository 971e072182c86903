-- A step of an iterator over a block takes the first or the last item of those left.
use Rattle.std.specs.Prelude.{List, ℕ, Option, Some, None}
use Rattle.std.specs.Iterator.{YieldsFirstBy, YieldsLastBy}
use Rattle.sst_block_core.specs.Backs.{GivesNextBack}
use Rattle.sst_block_core.specs.Candidates.{GivesNextHeld}
use Rattle.sst_block_core.specs.Scan.{Scan, GivesScanned}
use Rattle.sst_block_core.specs.Window.{items_left}
use Rattle.sst_block_core.specs.WindowLaws.{next_some, next_none, back_some, back_none}
use Rattle.std.proofs.Common.{◌≡◌, [], ◌∷◌, ◌++◌, sym, ap, ◌∙◌}

module _ {X P : Type 0} (item_of : List ℕ → P → X) (is_found : List ℕ → P → Type 0) where
  -- `next` of a decoder
  pub scan_gives_first : (s : Scan X) (r : Option P) (t : Scan X) → GivesScanned item_of is_found s r t → YieldsFirstBy (item_of s.payload) (λ d. items_left d.window) s r t
  scan_gives_first s None t gives = next_none s.window t.window gives.step
  scan_gives_first s (Some p) t gives = (next_some s.window t.window (item_of s.payload p) gives.step).0

  -- `next` of an iterator that may hold its first item
  pub held_gives_first : (s : Scan X) (r : Option P) (t : Scan X) → GivesNextHeld item_of is_found s r t → YieldsFirstBy (item_of s.payload) (λ d. items_left d.window) s r t
  held_gives_first s None t gives = next_none s.window t.window gives.step
  held_gives_first s (Some p) t gives = (next_some s.window t.window (item_of s.payload p) gives.step).0

  -- `next_back`
  pub scan_gives_last : (s : Scan X) (r : Option P) (t : Scan X) → GivesNextBack item_of is_found s r t → YieldsLastBy (item_of s.payload) (λ d. items_left d.window) s r t
  scan_gives_last s None t gives = back_none s.window t.window gives.within gives.step
  scan_gives_last s (Some p) t gives = back_some s.window t.window (item_of s.payload p) gives.within gives.step

-- what is left after a step that gives an item
module _ {X P : Type 0} (item_of : List ℕ → P → X) (is_found : List ℕ → P → Type 0) (s t : Scan X) where
  -- from the front
  pub took_some : (payload : List ℕ) (p : P) → payload ≡ s.payload → GivesScanned item_of is_found s (Some p) t → items_left s.window ≡ item_of payload p ∷ items_left t.window
  took_some payload p same gives = (next_some s.window t.window (item_of s.payload p) gives.step).0 ∙ ap (λ bytes. item_of bytes p ∷ items_left t.window) (sym same)

  -- from the back
  pub took_last : (payload : List ℕ) (p : P) → payload ≡ s.payload → GivesNextBack item_of is_found s (Some p) t → items_left s.window ≡ items_left t.window ++ item_of payload p ∷ []
  took_last payload p same gives = back_some s.window t.window (item_of s.payload p) gives.within gives.step ∙ ap (λ bytes. items_left t.window ++ item_of bytes p ∷ []) (sym same)
