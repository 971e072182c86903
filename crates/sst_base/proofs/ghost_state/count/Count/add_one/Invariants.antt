use Rattle.std.proofs.Common.{◌+◌}
use Rattle.sst_base.proofs.ghost_state.count.Count.add_one.Given as goal

abbrev pub ghost-chosen_note : goal.ghost-chosen_note
ghost-chosen_note a = a.first.now.value + 1
