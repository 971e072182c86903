use Rattle.std.proofs.Common.{◌≡◌, ap, ◌∙◌, sym, subst, IfErr}
use Rattle.sstable_blocks.specs.Run.{form}
use Rattle.sstable_blocks.specs.Writing.{IsWriteRefusal}
use Rattle.sst_parts.specs.CopyStates.{parts_of_state}
use Rattle.sst_parts.specs.PartCopies.{CurrentFits, PartsSoFar}
use Rattle.sst_parts.specs.declared.copier.CopyState.{CopyState}
use Rattle.sst_parts.proofs.copier.PartCopier.close.Goals as goal

pub returns-in-Open-clause-cause : goal.returns-in-Open-clause-cause
returns-in-Open-clause-cause g c =
    let same : c.in-Open.core ≡ c.args.self = sym (ap (λ (s : CopyState g.row.H.Denot g.row.W.Denot). parts_of_state s) c.in-Open.is) ∙ c.self.view_is in
    subst (λ (v : PartsSoFar g.row.W.Denot). IfErr c.close.result (IsWriteRefusal (CurrentFits (form g.H.BlockHash.hash64 g.H.BlockHash.hash128 v.config) v → ⊥))) (c.in-Open.core-is ∙ same) c.close.ensures.cause
