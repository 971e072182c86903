use Rattle.std.proofs.Common.{List, ap, ◌∙◌, sym, subst}
use Rattle.std.proofs.lemmas.Result.{err_from_is_err_and}
use Rattle.sstable_blocks.specs.Footer.{footer}
use Rattle.sstable_blocks.specs.Run.{form}
use Rattle.sstable_blocks.specs.RunLaws.{refusal_on}
use Rattle.sstable_blocks.specs.declared.run.RunConfig.{RunConfig}
use Rattle.sst_parts.proofs.Writing.Closings.{copies_ended}
use Rattle.sst_parts.specs.PartCopies.{AppendsOpenCopies, ClosedTopFits, CopiesEndFits, parts_so_far}
use Rattle.sst_parts.specs.declared.closed.PartOrigin.{PartOrigin}
use Rattle.sst_parts.proofs.copier.PartCopier.finish.Goals as goal

pub returns-in_err-closed-clause-cause : goal.returns-in_err-closed-clause-cause
returns-in_err-closed-clause-cause g c =
    let r = err_from_is_err_and c.from_residual.result c.from_residual.ensures.1 in
    rw (r.1, r.2) (refusal_on _ _ _ c.in_err-closed.ensures.cause (λ bad fits. bad fits.last))

pub returns-in_err-top-clause-cause : goal.returns-in_err-top-clause-cause
returns-in_err-top-clause-cause g c =
    let s = c.args.self in
    let h = λ (k : RunConfig). form g.H.BlockHash.hash64 g.H.BlockHash.hash128 k in
    let k = c.in_ok-closed.ensures.closed in
    let closed = c.in_ok-closed.closed in
    let r = err_from_is_err_and c.from_residual-in_err-top.result c.from_residual-in_err-top.ensures.1 in
    let top : CopiesEndFits (h s.config) s → ClosedTopFits (h closed.config) closed.parts = λ fits.
    let a = subst (λ (q : RunConfig). ClosedTopFits (h q) (parts_so_far s)) (sym k.config) fits.top in
    subst (λ (ps : List PartOrigin). ClosedTopFits (h closed.config) ps) (sym k.parts) a
    in
    rw (r.1, r.2) (refusal_on _ _ _ c.in_err-top.ensures.cause (λ bad fits. bad (top fits)))

pub returns-clause-layout : goal.returns-clause-layout
returns-clause-layout g c =
    let s = c.args.self in
    let contents = g.W.Write.contents in
    let h = λ (k : RunConfig). form g.H.BlockHash.hash64 g.H.BlockHash.hash128 k in
    let k = c.in_ok-closed.ensures.closed in
    let closed = c.in_ok-closed.closed in
    let now = contents c.write_top.new.writer in
    let top = c.in_ok-top.top in
    let a = subst (λ (q : RunConfig). AppendsOpenCopies (h q) closed.parts closed.start now top) k.config c.in_ok-top.ensures.parts in
    let b = subst (λ (ps : List PartOrigin). AppendsOpenCopies (h s.config) ps closed.start now top) k.parts a in
    let d = subst (λ o. AppendsOpenCopies (h s.config) (parts_so_far s) o now top) k.start b in
    copies_ended (h s.config) (parts_so_far s) s.start now (contents c.put.new.self) top _ d c.in_ok-put.ensures.ok (c.encode_footer.ensures ∙ ap footer c.footer_handles.ensures)

pub returns-clause-sound : goal.returns-clause-sound
returns-clause-sound g c = λ parts from ordered.
    let s = c.args.self in
    let l = returns-clause-layout g c in
    (l.0, c.copied_layout_is_parted.ensures (form g.H.BlockHash.hash64 g.H.BlockHash.hash128 s.config) (parts_so_far s) parts l.0 c.in_ok-top.top l.1 from ordered, l.2)
