-- An entry that is made of the item of a step is the first or the last of those left.
use Rattle.std.proofs.Common.{◌≡◌, List, ℕ, Option, Some, None, Result, Ok, Err, IfOk, subst, sym, ap, ◌∙◌, ◌∷◌, ◌++◌, []}
use Rattle.std.specs.Iterator.{YieldsFirst, YieldsLast}
use Rattle.std.specs.Option.{option_map}
use Rattle.sst_block_core.specs.Backs.{GivesNextBack}
use Rattle.sst_block_core.specs.ListSteps.{scan_gives_first, scan_gives_last}
use Rattle.sst_block_core.specs.Scan.{Scan, GivesScanned}
use Rattle.sst_block_core.specs.Window.{items_left}

module _ {X P : Type 0} (item_of : List ℕ → P → X) (is_found : List ℕ → P → Type 0) (s t : Scan X) where
  first_of_item : (r : Option P) → GivesScanned item_of is_found s r t → YieldsFirst (λ (left : List X). left) (items_left s.window) (option_map (item_of t.payload) r) (items_left t.window)
  first_of_item None gives = scan_gives_first item_of is_found s None t gives
  first_of_item (Some p) gives = scan_gives_first item_of is_found s (Some p) t gives ∙ ap (λ bytes. item_of bytes p ∷ items_left t.window) (sym gives.payload)

  last_of_item : (r : Option P) → GivesNextBack item_of is_found s r t → YieldsLast (λ (left : List X). left) (items_left s.window) (option_map (item_of t.payload) r) (items_left t.window)
  last_of_item None gives = scan_gives_last item_of is_found s None t gives
  last_of_item (Some p) gives = scan_gives_last item_of is_found s (Some p) t gives ∙ ap (λ bytes. items_left t.window ++ item_of bytes p ∷ []) (sym gives.payload)

  -- from the front
  pub made_first : {E : Type 0} (r : Option P) (made : Result (Option X) E) → GivesScanned item_of is_found s r t → IfOk made (λ x. x ≡ option_map (item_of t.payload) r)
      → IfOk made (λ x. YieldsFirst (λ (left : List X). left) (items_left s.window) x (items_left t.window))
  made_first r (Ok x) gives is = subst (λ y. YieldsFirst (λ (left : List X). left) (items_left s.window) y (items_left t.window)) (sym is) (first_of_item r gives)
  made_first r (Err e) gives is = tt

  -- from the back
  pub made_last : {E : Type 0} (r : Option P) (made : Result (Option X) E) → GivesNextBack item_of is_found s r t → IfOk made (λ x. x ≡ option_map (item_of t.payload) r)
      → IfOk made (λ x. YieldsLast (λ (left : List X). left) (items_left s.window) x (items_left t.window))
  made_last r (Ok x) gives is = subst (λ y. YieldsLast (λ (left : List X). left) (items_left s.window) y (items_left t.window)) (sym is) (last_of_item r gives)
  made_last r (Err e) gives is = tt
