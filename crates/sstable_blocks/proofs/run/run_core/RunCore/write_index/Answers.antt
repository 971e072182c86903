use Rattle.std.proofs.Common.{◌≡◌, refl, ap, ◌∙◌, subst, ◌+◌, ℕ, List, length, IfOk}
use Rattle.std.proofs.lemmas.Result.{err_from_is_err_and}
use Rattle.sst_base.specs.declared.table.block.block_type.BlockType.TheVariants.{Index}
use Rattle.sst_block_core.specs.Handles.{index_payload}
use Rattle.sstable_blocks.specs.Run.{form, block_frames}
use Rattle.sstable_blocks.specs.Writing.{Written, IsKept, IsFrameAppended}
use Rattle.sstable_blocks.proofs.Layouts.Endings.{index_text_is, index_refused, index_fits, part_refused, if_err_map, on_any, run}
use Rattle.sstable_blocks.proofs.run.run_core.RunCore.write_index.Goals as goal

pub returns-in_err-payload-clause-cause : goal.returns-in_err-payload-clause-cause
returns-in_err-payload-clause-cause g c =
    let k = subst (λ (w : Written). IsKept (form g.H.BlockHash.hash64 g.H.BlockHash.hash128 w.config) w.blocks c.self.inside.handles.items c.self.inside.hashes.items c.self.inside.offset) c.self.view_is c.self.invariant in
    let f = form g.H.BlockHash.hash64 g.H.BlockHash.hash128 c.args.self.now.config in
    let q = ap (λ (w : Written). w.config.index_interval) c.self.view_is in
    let p = err_from_is_err_and c.from_residual.result c.from_residual.ensures.1 in
    rw (p.1, p.2) (index_refused f c.args.self.now.blocks c.self.inside.handles.items c.self.inside.hashes.items c.self.inside.offset k c.requires
    (index_payload c.deref.result.now c.self.inside.config.index_interval) (index_text_is f c.args.self.now.blocks c.self.inside.handles.items c.self.inside.hashes.items c.self.inside.offset k c.requires c.deref.result.now c.self.inside.config.index_interval _ c.deref.ensures.value q refl)
    c.in_err-payload.field-0.0 c.in_err-payload.ensures.cause)

pub returns-clause-written : goal.returns-clause-written
returns-clause-written g c =
    let k = subst (λ (w : Written). IsKept (form g.H.BlockHash.hash64 g.H.BlockHash.hash128 w.config) w.blocks c.self.inside.handles.items c.self.inside.hashes.items c.self.inside.offset) c.self.view_is c.self.invariant in
    let f = form g.H.BlockHash.hash64 g.H.BlockHash.hash128 c.args.self.now.config in
    let q = ap (λ (w : Written). w.config.index_interval) c.self.view_is in
    let text = index_text_is f c.args.self.now.blocks c.self.inside.handles.items c.self.inside.hashes.items c.self.inside.offset k c.requires c.deref.result.now c.self.inside.config.index_interval c.deref-2.result.now c.deref.ensures.value q (c.deref-2.ensures.value ∙ c.in_ok-payload.ensures.payload) in
    subst (λ xs. IfOk c.write_part.result (λ r. IsFrameAppended g.H.BlockHash.hash128 Index (length (block_frames f c.args.self.now.blocks)) xs (g.W.Write.contents c.args.writer.now) (g.W.Write.contents c.write_part.new.writer) r.0)) text
    (subst (λ n. IfOk c.write_part.result (λ r. IsFrameAppended g.H.BlockHash.hash128 Index n c.deref-2.result.now (g.W.Write.contents c.args.writer.now) (g.W.Write.contents c.write_part.new.writer) r.0)) k.offset c.write_part.ensures.written)

pub returns-clause-end : goal.returns-clause-end
returns-clause-end g c =
    let k = subst (λ (w : Written). IsKept (form g.H.BlockHash.hash64 g.H.BlockHash.hash128 w.config) w.blocks c.self.inside.handles.items c.self.inside.hashes.items c.self.inside.offset) c.self.view_is c.self.invariant in
    let f = form g.H.BlockHash.hash64 g.H.BlockHash.hash128 c.args.self.now.config in
    let q = ap (λ (w : Written). w.config.index_interval) c.self.view_is in
    let text = index_text_is f c.args.self.now.blocks c.self.inside.handles.items c.self.inside.hashes.items c.self.inside.offset k c.requires c.deref.result.now c.self.inside.config.index_interval c.deref-2.result.now c.deref.ensures.value q (c.deref-2.ensures.value ∙ c.in_ok-payload.ensures.payload) in
    subst (λ (xs : List ℕ). IfOk c.write_part.result (λ r. r.1 ≡ length (block_frames f c.args.self.now.blocks) + (33 + length xs))) text
    (subst (λ n. IfOk c.write_part.result (λ r. r.1 ≡ n + (33 + length c.deref-2.result.now))) k.offset c.write_part.ensures.end)

pub returns-clause-run : goal.returns-clause-run
returns-clause-run g c =
    let k = subst (λ (w : Written). IsKept (form g.H.BlockHash.hash64 g.H.BlockHash.hash128 w.config) w.blocks c.self.inside.handles.items c.self.inside.hashes.items c.self.inside.offset) c.self.view_is c.self.invariant in
    let f = form g.H.BlockHash.hash64 g.H.BlockHash.hash128 c.args.self.now.config in
    on_any c.write_part.result (run f c.args.self.now.blocks c.self.inside.handles.items c.self.inside.hashes.items c.self.inside.offset k c.requires)

pub returns-clause-framed : goal.returns-clause-framed
returns-clause-framed g c =
    let k = subst (λ (w : Written). IsKept (form g.H.BlockHash.hash64 g.H.BlockHash.hash128 w.config) w.blocks c.self.inside.handles.items c.self.inside.hashes.items c.self.inside.offset) c.self.view_is c.self.invariant in
    let f = form g.H.BlockHash.hash64 g.H.BlockHash.hash128 c.args.self.now.config in
    on_any c.write_part.result k.framed

pub returns-clause-cause : goal.returns-clause-cause
returns-clause-cause g c =
    let k = subst (λ (w : Written). IsKept (form g.H.BlockHash.hash64 g.H.BlockHash.hash128 w.config) w.blocks c.self.inside.handles.items c.self.inside.hashes.items c.self.inside.offset) c.self.view_is c.self.invariant in
    let f = form g.H.BlockHash.hash64 g.H.BlockHash.hash128 c.args.self.now.config in
    let q = ap (λ (w : Written). w.config.index_interval) c.self.view_is in
    let text = index_text_is f c.args.self.now.blocks c.self.inside.handles.items c.self.inside.hashes.items c.self.inside.offset k c.requires c.deref.result.now c.self.inside.config.index_interval c.deref-2.result.now c.deref.ensures.value q (c.deref-2.ensures.value ∙ c.in_ok-payload.ensures.payload) in
    if_err_map c.write_part.result _ _ (λ e cause. part_refused _ c.self.inside.offset c.deref-2.result.now e cause (index_fits f c.args.self.now.blocks c.self.inside.handles.items c.self.inside.hashes.items c.self.inside.offset k c.requires c.deref-2.result.now text)) c.write_part.ensures.cause
