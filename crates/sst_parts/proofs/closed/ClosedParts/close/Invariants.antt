use Rattle.sst_parts.specs.declared.closed.PartOrigin.TheVariants.{Made}
use Rattle.sst_parts.proofs.closed.ClosedParts.close.Given as goal

abbrev pub ghost-push_chosen : goal.ghost-push_chosen
ghost-push_chosen g a = Made a.shown.now
