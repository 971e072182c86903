use Rattle.std.proofs.Common.{map}
use Rattle.sst_parts.proofs.part_core.PartCore.add_block.Given as goal

abbrev pub ghost-push_chosen : goal.ghost-push_chosen
ghost-push_chosen g a = map g.T.AsEntry.entry a.shown.now.now
