use Rattle.std.proofs.Common.{◌≤◌, ◌++◌, ◌∷◌, [], List, length, sym, subst}
use Rattle.std.proofs.lemmas.Result.{err_from_is_err_and}
use Rattle.sstable_blocks.specs.Prelude.{entries, IsOrdered}
use Rattle.sstable_blocks.specs.Blocks.{joined}
use Rattle.sstable_blocks.specs.Run.{form}
use Rattle.sstable_blocks.specs.RunLaws.{refusal_on}
use Rattle.sstable_blocks.specs.Writing.{IsWriteRefusal}
use Rattle.sstable_blocks.specs.declared.run.RunConfig.{RunConfig}
use Rattle.sst_parts.proofs.Writing.Copies.{all_open, current_fits, top_fits, with_some_parts, writing_of}
use Rattle.sst_parts.specs.PartCopies.{AppendsOpenCopies, ClosedTopFits, known_parts, parts_so_far}
use Rattle.sst_parts.specs.PartWriting.{AppendsOpen, EndFits, PartWriting}
use Rattle.sst_parts.specs.declared.closed.PartOrigin.{PartOrigin}
use Rattle.sst_parts.proofs.writer.PartWriter.finish_parts.Goals as goal

pub write_top-requires-clause-some : goal.write_top-requires-clause-some
write_top-requires-clause-some g c =
    let w = c.self.inside.core in
    let some : 1 ≤ length w.current = subst (λ (v : PartWriting g.row.W.Denot). 1 ≤ length v.current) (sym c.self.view_is) c.requires in
    subst (λ (ps : List PartOrigin). 1 ≤ length ps) (sym c.in_ok-closed.ensures.closed.parts) (with_some_parts w.closed w.current some)

pub returns-in_err-closed-clause-cause : goal.returns-in_err-closed-clause-cause
returns-in_err-closed-clause-cause g c =
    let w = c.self.inside.core in
    let h = λ (k : RunConfig). form g.H.BlockHash.hash64 g.H.BlockHash.hash128 k in
    let r = err_from_is_err_and c.from_residual.result c.from_residual.ensures.1 in
    let wrong = refusal_on _ (EndFits (h w.config) (writing_of w) → ⊥) _ c.in_err-closed.ensures.cause (λ bad fits. bad (current_fits (h w.config) w c.self.invariant.made fits)) in
    rw (r.1, r.2) (subst (λ (v : PartWriting g.row.W.Denot). IsWriteRefusal (EndFits (h v.config) v → ⊥) c.in_err-closed.field-0.0) c.self.view_is wrong)

pub returns-in_err-top-clause-cause : goal.returns-in_err-top-clause-cause
returns-in_err-top-clause-cause g c =
    let w = c.self.inside.core in
    let h = λ (k : RunConfig). form g.H.BlockHash.hash64 g.H.BlockHash.hash128 k in
    let k = c.in_ok-closed.ensures.closed in
    let some : 1 ≤ length w.current = subst (λ (v : PartWriting g.row.W.Denot). 1 ≤ length v.current) (sym c.self.view_is) c.requires in
    let r = err_from_is_err_and c.from_residual-in_err-top.result c.from_residual-in_err-top.ensures.1 in
    let top : EndFits (h w.config) (writing_of w) → ClosedTopFits (h c.in_ok-closed.closed.config) c.in_ok-closed.closed.parts = λ fits.
    let a = top_fits (h w.config) w c.self.invariant.made some fits in
    let b = subst (λ (q : RunConfig). ClosedTopFits (h q) (parts_so_far w)) (sym k.config) a in
    subst (λ (ps : List PartOrigin). ClosedTopFits (h c.in_ok-closed.closed.config) ps) (sym k.parts) b
    in
    let wrong = refusal_on _ (EndFits (h w.config) (writing_of w) → ⊥) _ c.in_err-top.ensures.cause (λ bad fits. bad (top fits)) in
    rw (r.1, r.2) (subst (λ (v : PartWriting g.row.W.Denot). IsWriteRefusal (EndFits (h v.config) v → ⊥) c.in_err-top.field-0.0) c.self.view_is wrong)

pub returns-clause-parts : goal.returns-clause-parts
returns-clause-parts g c =
    let w = c.self.inside.core in
    let h = λ (k : RunConfig). form g.H.BlockHash.hash64 g.H.BlockHash.hash128 k in
    let now = g.W.Write.contents c.write_top.new.writer in
    let top = c.in_ok-top.top in
    let k = c.in_ok-closed.ensures.closed in
    let closed = c.in_ok-closed.closed in
    let some : 1 ≤ length w.current = subst (λ (v : PartWriting g.row.W.Denot). 1 ≤ length v.current) (sym c.self.view_is) c.requires in
    let a = subst (λ (q : RunConfig). AppendsOpenCopies (h q) closed.parts closed.start now top) k.config c.in_ok-top.ensures.parts in
    let b = subst (λ (ps : List PartOrigin). AppendsOpenCopies (h w.config) ps closed.start now top) k.parts a in
    let d = subst (λ o. AppendsOpenCopies (h w.config) (parts_so_far w) o now top) k.start b in
    let ordered = subst (λ (ps : List PartOrigin). IsOrdered entries (joined (joined (known_parts ps)))) k.parts k.between.ordered in
    subst (λ (v : PartWriting g.row.W.Denot). AppendsOpen (h v.config) (v.parts ++ v.current ∷ []) v.start now top) c.self.view_is (all_open (h w.config) w c.self.invariant.made some w.start now top ordered d)
