use Rattle.sst_base.proofs.ghost_state.contents.Contents.of.Given as goal

abbrev pub ghost-chosen_note : goal.ghost-chosen_note
ghost-chosen_note g a = g.W.Write.contents a.first.now
