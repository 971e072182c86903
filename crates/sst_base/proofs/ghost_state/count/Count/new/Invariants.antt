use Rattle.sst_base.proofs.ghost_state.count.Count.new.Given as goal

abbrev pub ghost-chosen_note : goal.ghost-chosen_note
ghost-chosen_note a = 0
