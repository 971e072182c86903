use Rattle.std.proofs.Common.{◌≡◌, List, ℕ, Some, ◌∷◌, ◌∙◌, sym, ap}
use Rattle.sst_block_core.specs.Candidates.{GivesNextHeld}
use Rattle.sst_block_core.specs.ListLaws.{one_fewer}
use Rattle.sst_block_core.specs.Scan.{Scan}
use Rattle.sst_block_core.specs.Window.{items_left}
use Rattle.sst_block_core.specs.WindowLaws.{next_some}
use Rattle.sst_block_core.specs.Handles.{Handle}
use Rattle.sst_block_core.specs.ParsedHandle.{parsed_handle, IsParsedHandle}
use Rattle.sst_block_core.specs.declared.table.index_block.parsed_item.IndexBlockParsedItem.{IndexBlockParsedItem}
use Rattle.sst_block_core.proofs.table.index_block.handle_view.HandleViewsIterator.next.Goals as goal

-- what is left after a step that gives a handle
took_held : (s t : Scan Handle) (payload : List ℕ) (p : IndexBlockParsedItem) → payload ≡ s.payload → GivesNextHeld parsed_handle IsParsedHandle s (Some p) t → items_left s.window ≡ parsed_handle payload p ∷ items_left t.window
took_held s t payload p same gives = (next_some s.window t.window (parsed_handle s.payload p) gives.step).0 ∙ ap (λ bytes. parsed_handle bytes p ∷ items_left t.window) (sym same)

pub returns-clause-steps : goal.returns-clause-steps
returns-clause-steps c = sym c.self.view_is ∙ took_held _ _ _ _ c.self.invariant c.in-Some.ensures.steps

pub returns-clause-goes : goal.returns-clause-goes
returns-clause-goes c = record { on = λ _. (tt, tt, one_fewer _ _ _ (sym c.self.view_is ∙ took_held _ _ _ _ c.self.invariant c.in-Some.ensures.steps)); keeps = tt; rests = λ _. tt }
