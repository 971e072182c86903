use Rattle.sst_parts.specs.declared.closed.PartOrigin.TheVariants.{Copied}
use Rattle.sst_parts.proofs.closed.ClosedParts.copy.Given as goal

abbrev pub ghost-push_chosen : goal.ghost-push_chosen
ghost-push_chosen g a = Copied a.shown.now.0.now a.shown.now.1.now
