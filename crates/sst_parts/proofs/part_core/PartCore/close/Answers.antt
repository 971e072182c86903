use Rattle.std.proofs.Common.{◌≤◌, length, refl, sym, subst, IfErr, IfOk}
use Rattle.std.proofs.lemmas.Result.{IfErr-weaker}
use Rattle.sstable_blocks.specs.Run.{form}
use Rattle.sstable_blocks.specs.RunLaws.{refusal_on}
use Rattle.sstable_blocks.specs.SourceLaws.{if_ok_map}
use Rattle.sstable_blocks.specs.Writing.{IsWriteRefusal}
use Rattle.sst_parts.proofs.Writing.Copies.{closes_core}
use Rattle.sst_parts.specs.PartCopies.{ClosesCurrent, CurrentFits, PartsSoFar}
use Rattle.sst_parts.proofs.part_core.PartCore.close.Goals as goal

pub returns-clause-closed : goal.returns-clause-closed
returns-clause-closed g c =
    let i = c.self.inside in
    let contents = g.W.Write.contents in
    let w : PartsSoFar g.row.W.Denot = record { config = i.closed.config; sizes = i.sizes; closed = i.closed.parts; current = i.run.blocks; start = i.closed.start; writer = i.run.writer } in
    let some : 1 ≤ length i.run.blocks = subst (λ (v : PartsSoFar g.row.W.Denot). 1 ≤ length v.current) (sym c.self.view_is) c.requires in
    let k = c.self.invariant in
    subst (λ (v : PartsSoFar g.row.W.Denot). IfOk c.close.result (λ r. ClosesCurrent {W = g.row.W.Denot} v r.0 (contents r.1))) c.self.view_is
    (if_ok_map c.close.result _ _ (λ r closes. closes_core i.closed r.0 w (contents r.1) refl refl refl some k.writable k.ordered closes) c.close.ensures.closed)

pub returns-clause-cause : goal.returns-clause-cause
returns-clause-cause g c =
    let some : 1 ≤ length c.self.inside.run.blocks = subst (λ (v : PartsSoFar g.row.W.Denot). 1 ≤ length v.current) (sym c.self.view_is) c.requires in
    subst (λ (v : PartsSoFar g.row.W.Denot). IfErr c.close.result (IsWriteRefusal (CurrentFits (form g.H.BlockHash.hash64 g.H.BlockHash.hash128 v.config) v → ⊥))) c.self.view_is
    (IfErr-weaker c.close.result _ _ (λ e refused. refusal_on _ _ e refused (λ bad fits. bad (fits some))) c.close.ensures.cause)
