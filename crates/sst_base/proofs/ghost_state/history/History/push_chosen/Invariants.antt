use Rattle.std.proofs.Common.{[], ◌∷◌, ◌++◌}
use Rattle.sst_base.proofs.ghost_state.history.History.push_chosen.Given as goal

abbrev pub ghost-chosen_note : goal.ghost-chosen_note
ghost-chosen_note g a = a.first.now.value ++ g.chosen ∷ []
