use Rattle.std.proofs.Common.{◌≡◌, ◌+◌, ◌<◌, ◌^◌, ℕ, Option, List, length, arith, ap, ◌∙◌, sym, subst}
use Rattle.std.proofs.lemmas.Result.{err_from_is_err_and}
use Rattle.std.specs.Io.KnownBytes.{Appends}
use Rattle.sst_parts.proofs.Writing.Closings.{fits_copy, one_copied, refusal_of}
use Rattle.sst_parts.specs.PartCopies.{ClosedView, CopyFits}
use Rattle.sstable_blocks.specs.Run.{form}
use Rattle.sstable_blocks.specs.Writing.{IsWriteRefusal}
use Rattle.sst_parts.proofs.closed.ClosedParts.copy.Goals as goal

pub returns-in_err-copied-clause-cause : goal.returns-in_err-copied-clause-cause
returns-in_err-copied-clause-cause g c =
    let i = c.self.inside in
    let h = λ (v : ClosedView). form g.H.BlockHash.hash64 g.H.BlockHash.hash128 v.config in
    let f = form g.H.BlockHash.hash64 g.H.BlockHash.hash128 i.config in
    let r = err_from_is_err_and c.from_residual.result c.from_residual.ensures.1 in
    let size = c.requires.size in
    let wrong = refusal_of _ _ (CopyFits f i.parts c.args.part.now → ⊥) c.in_err-copied.ensures.cause (λ long fits. let end : i.offset + length c.args.part.now < 2 ^ 64 = fits_copy f i.parts i.start i.after i.tops.items i.offset c.self.invariant c.args.part.now fits in absurd (omega (arith, long, end, size))) in
    rw (r.1, r.2) (subst (λ (v : ClosedView). IsWriteRefusal (CopyFits (h v) v.parts c.args.part.now → ⊥) c.in_err-copied.field-0.0) c.self.view_is wrong)

pub invariant_of-result : goal.invariant_of-result
invariant_of-result g c =
    let i = c.self.inside in
    let f = form g.H.BlockHash.hash64 g.H.BlockHash.hash128 i.config in
    let part = c.args.part.now in
    let now = g.W.Write.contents c.put.new.self in
    let m = c.in_ok-copied.ensures in
    let at : g.W.Write.contents c.args.writer.now ≡ i.after = c.requires.after ∙ sym (ap (λ (v : ClosedView). v.after) c.self.view_is) in
    let grown = subst (λ (o : Option (List ℕ)). Appends o now part) at c.in_ok-put.ensures.ok in
    rw (c.push_chosen.ensures, c.of.ensures) (one_copied f i.parts part c.args.end.now i.start i.after now i.tops.items c.push.new.self.items c.in_ok-copied.copied i.offset c.in_ok-copied.next c.self.invariant c.requires.size m.handle grown m.next m.end c.in_ok-push.ensures.items)
