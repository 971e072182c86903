use Rattle.std.proofs.Common.{◌≡◌, ◌≤◌, ℕ, List, Option, length, ap, ◌∙◌, sym, subst, refl, IfErr, IfOk}
use Rattle.sstable_blocks.specs.Prelude.{HandleParts, entries, Handle, handles, IsOrdered}
use Rattle.sstable_blocks.specs.SourceLaws.{if_ok_map}
use Rattle.std.proofs.lemmas.Result.{IfErr-weaker, err_from_is_err_and}
use Rattle.sstable_blocks.specs.Writing.{IsWriteRefusal}
use Rattle.sst_parts.proofs.Writing.Closings.{index_no_fit, index_too_long, parted_by, refusal_at_put, refusal_of, tops_ordered, tops_some}
use Rattle.sst_parts.specs.PartCopies.{AppendsOpenCopies, ClosedTopFits, ClosedView, known_parts}
use Rattle.sst_parts.specs.PartWriting.{AppendsTop}
use Rattle.sstable_blocks.specs.Blocks.{joined}
use Rattle.sstable_blocks.specs.Run.{form}
use Rattle.sst_parts.proofs.closed.ClosedParts.write_top.Goals as goal

pub encode_into_vec_with-requires-clause-some : goal.encode_into_vec_with-requires-clause-some
encode_into_vec_with-requires-clause-some g c =
    let some = subst (λ (v : ClosedView). 1 ≤ length v.parts) (sym c.self.view_is) c.requires.some in
    subst (λ (hs : List Handle). 1 ≤ length hs) (sym c.deref.ensures.value) (tops_some _ _ _ _ _ _ c.self.invariant some)

pub encode_into_vec_with-requires-clause-ordered : goal.encode_into_vec_with-requires-clause-ordered
encode_into_vec_with-requires-clause-ordered g c =
    let ordered = subst (λ (v : ClosedView). IsOrdered entries (joined (joined (known_parts v.parts)))) (sym c.self.view_is) c.requires.between.ordered in
    subst (λ (hs : List Handle). IsOrdered handles hs) (sym c.deref.ensures.value) (tops_ordered _ _ _ _ _ _ c.self.invariant ordered)

pub returns-clause-parts : goal.returns-clause-parts
returns-clause-parts g c =
    let i = c.self.inside in
    let f = form g.H.BlockHash.hash64 g.H.BlockHash.hash128 i.config in
    let before = g.W.Write.contents c.args.writer.now in
    let after = g.W.Write.contents c.write_index.new.writer in
    let p = c.in_ok-payload.payload.items in
    let at : before ≡ i.after = sym c.requires.between.after ∙ sym (ap (λ (v : ClosedView). v.after) c.self.view_is) in
    let top = λ (h : HandleParts) (t : AppendsTop g.H.BlockHash.hash128 i.offset c.deref-2.result.now before after h). subst (λ (o : Option (List ℕ)). AppendsTop g.H.BlockHash.hash128 i.offset p o after h) at (subst (λ (xs : List ℕ). AppendsTop g.H.BlockHash.hash128 i.offset xs before after h) c.deref-2.ensures.value t) in
    let e = c.in_ok-payload.ensures in
    subst (λ (v : ClosedView). IfOk c.write_index.result (λ h. AppendsOpenCopies (form g.H.BlockHash.hash64 g.H.BlockHash.hash128 v.config) v.parts v.start after h)) c.self.view_is
    (if_ok_map c.write_index.result _ _ (λ h t. parted_by f i.parts i.start i.after i.tops.items i.offset c.self.invariant c.deref.result.now i.config.index_interval p after h c.deref.ensures.value refl e.block e.payload (top h t)) c.write_index.ensures.top)

pub returns-in_err-payload-clause-cause : goal.returns-in_err-payload-clause-cause
returns-in_err-payload-clause-cause g c =
    let i = c.self.inside in
    let h = λ (v : ClosedView). form g.H.BlockHash.hash64 g.H.BlockHash.hash128 v.config in
    let f = form g.H.BlockHash.hash64 g.H.BlockHash.hash128 i.config in
    let r = err_from_is_err_and c.from_residual.result c.from_residual.ensures.1 in
    let wrong = refusal_of _ _ _ c.in_err-payload.ensures.cause (λ long fits. index_too_long f i.parts i.start i.after i.tops.items i.offset c.self.invariant c.deref.result.now i.config.index_interval c.deref.ensures.value refl long fits) in
    rw (r.1, r.2) (subst (λ (v : ClosedView). IsWriteRefusal (ClosedTopFits (h v) v.parts → ⊥) c.in_err-payload.field-0.0) c.self.view_is wrong)

pub returns-clause-cause : goal.returns-clause-cause
returns-clause-cause g c =
    let i = c.self.inside in
    let h = λ (v : ClosedView). form g.H.BlockHash.hash64 g.H.BlockHash.hash128 v.config in
    let f = form g.H.BlockHash.hash64 g.H.BlockHash.hash128 i.config in
    let e = c.in_ok-payload.ensures in
    let text = c.deref-2.ensures.value ∙ e.payload in
    subst (λ (v : ClosedView). IfErr c.write_index.result (IsWriteRefusal (ClosedTopFits (h v) v.parts → ⊥))) c.self.view_is
    (IfErr-weaker c.write_index.result _ _ (λ x refused. refusal_at_put x _ _ refused (λ no fits. index_no_fit f i.parts i.start i.after i.tops.items i.offset c.self.invariant c.deref.result.now i.config.index_interval c.deref-2.result.now c.deref.ensures.value refl text no fits)) c.write_index.ensures.cause)
