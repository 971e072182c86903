use Rattle.std.proofs.Common.{◌∷◌, [], List, ap, ◌∙◌, sym, subst}
use Rattle.std.proofs.lemmas.Result.{err_from_is_err_and}
use Rattle.sstable_blocks.specs.Prelude.{Entry}
use Rattle.sstable_blocks.specs.Blocks.{joined}
use Rattle.sstable_blocks.specs.Run.{form}
use Rattle.sstable_blocks.specs.RunLaws.{refusal_on}
use Rattle.sstable_blocks.specs.Writing.{Follows}
use Rattle.sstable_blocks.specs.declared.run.RunConfig.{RunConfig}
use Rattle.sst_parts.proofs.Writing.Copies.{copied_between, known_all}
use Rattle.sst_parts.specs.PartCopies.{CopiedPartFits, CopyFits, end_entry, known_parts, parts_so_far}
use Rattle.sst_parts.specs.declared.closed.PartOrigin.{PartOrigin}
use Rattle.sst_parts.proofs.copier.PartCopier.add_part.Goals as goal

pub returns-in_err-closed-clause-cause : goal.returns-in_err-closed-clause-cause
returns-in_err-closed-clause-cause g c =
    let r = err_from_is_err_and c.from_residual.result c.from_residual.ensures.1 in
    rw (r.1, r.2) (refusal_on _ _ _ c.in_err-closed.ensures.cause (λ bad fits. bad fits.last))

pub returns-in_err-closed-2-clause-cause : goal.returns-in_err-closed-2-clause-cause
returns-in_err-closed-2-clause-cause g c =
    let s = c.args.self in
    let part = c.args.part.now in
    let h = λ (k : RunConfig). form g.H.BlockHash.hash64 g.H.BlockHash.hash128 k in
    let k = c.in_ok-closed.ensures.closed in
    let closed = c.in_ok-closed.closed in
    let r = err_from_is_err_and c.from_residual-in_err-closed-2.result c.from_residual-in_err-closed-2.ensures.1 in
    let copy : CopiedPartFits (h s.config) s part → CopyFits (h closed.config) closed.parts part = λ fits.
    let a = subst (λ (q : RunConfig). CopyFits (h q) (parts_so_far s) part) (sym k.config) fits.copy in
    subst (λ (ps : List PartOrigin). CopyFits (h closed.config) ps part) (sym k.parts) a
    in
    rw (r.1, r.2) (refusal_on _ _ _ c.in_err-closed-2.ensures.cause (λ bad fits. bad (copy fits)))

pub invariant_of-result : goal.invariant_of-result
invariant_of-result g c =
    let s = c.args.self in
    let k = c.in_ok-closed.ensures.closed in
    let known = ap (λ (ps : List PartOrigin). joined (known_parts ps)) k.parts ∙ known_all s in
    let follows = subst (λ (bs : List (List Entry)). Follows bs (end_entry c.args.end.now ∷ [])) (sym known) c.requires.behind in
    copied_between c.in_ok-closed.closed c.in_ok-closed-2.closed c.args.part.now c.args.end.now (g.W.Write.contents c.copy.new.writer) k.between.writable follows c.in_ok-closed-2.ensures.copied
