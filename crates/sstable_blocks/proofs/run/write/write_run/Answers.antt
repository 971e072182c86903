use Rattle.std.proofs.Common.{◌≡◌, sym, ◌∙◌, ap, arith, rules, subst, length, length-drop, map, ◌<◌, get_or, IfOk, IfErr}
use Rattle.std.proofs.lemmas.List.{drop_all, length-map}
use Rattle.std.proofs.lemmas.Result.{err_from_is_err_and}
use Rattle.std.specs.Io.KnownBytes.{Appends}
use Rattle.sstable_blocks.specs.Blocks.{CutsFit, blocks_of}
use Rattle.sstable_blocks.specs.Run.{form, block_frames, RunFits}
use Rattle.sstable_blocks.specs.RunLaws.{refusal_on, fits_next}
use Rattle.sstable_blocks.specs.Writing.{Written, FrameFits, IsWriteRefusal, AppendsLayout}
use Rattle.sstable_blocks.proofs.Lists.Cuts.{CutsLeft, cuts_left}
use Rattle.sstable_blocks.proofs.Lists.Mapped.{back_mapped, front_mapped}
use Rattle.sstable_blocks.proofs.Layouts.CutLoops.{next_cut, step_is, last_is, so_far_is, rest_is, order_next, bytes_next, layout_end}
use Rattle.sstable_blocks.proofs.Layouts.SoundLayouts.{sound_appended}
use Rattle.sstable_blocks.proofs.run.write.write_run.Goals as goal

pub split_at-requires : goal.split_at-requires
split_at-requires g c =
    let i = c.loop-cut.invariant in
    let n = next_cut _ _ c.loop-cut.cut-index c.args.cuts.now c.loop-cut-test.true i.cuts_left in
    let r = ap length i.rest in
    let l = length-drop c.loop-cut.start c.args.items.now in
    omega arith

pub add_block-requires-clause-follows : goal.add_block-requires-clause-follows
add_block-requires-clause-follows g c =
    let i = c.loop-cut.invariant in
    let entry = g.T.AsEntry.entry in
    let items = map entry c.args.items.now in
    let rest = back_mapped entry c.loop-cut.start c.args.items.now c.loop-cut.rest.now i.rest in
    let front = front_mapped entry _ c.loop-cut.rest.now c.split_at.result.0.now c.split_at.ensures.front in
    let step = step_is c.loop-cut.core.blocks c.loop-cut.start c.loop-cut.cut-index c.args.cuts.now items _ _ _ c.loop-cut-test.true rest front i.so_far in
    let n = next_cut _ _ c.loop-cut.cut-index c.args.cuts.now c.loop-cut-test.true i.cuts_left in
    record {
      some = (let count = length-map c.split_at.result.0.now entry in omega (arith, n.0, c.split_at.ensures.front_len, count));
      ordered = order_next _ _ _ _ _ step (c.blocks_are_the_list.ensures items c.args.cuts.now (let count = length-map c.args.items.now entry in omega (arith, count, c.requires.some)) (subst (λ n. CutsFit 0 n c.args.cuts.now) (sym (length-map c.args.items.now entry)) c.requires.cuts)).0 c.requires.ordered;
    }

pub returns-in_err-add_block-clause-cause : goal.returns-in_err-add_block-clause-cause
returns-in_err-add_block-clause-cause g c =
    let i = c.loop-cut.invariant in
    let entry = g.T.AsEntry.entry in
    let items = map entry c.args.items.now in
    let rest = back_mapped entry c.loop-cut.start c.args.items.now c.loop-cut.rest.now i.rest in
    let front = front_mapped entry _ c.loop-cut.rest.now c.split_at.result.0.now c.split_at.ensures.front in
    let step = step_is c.loop-cut.core.blocks c.loop-cut.start c.loop-cut.cut-index c.args.cuts.now items _ _ _ c.loop-cut-test.true rest front i.so_far in
    let same : c.loop-cut.core.config ≡ c.args.config = i.config ∙ ap (λ (w : Written). w.config) c.new-core.ensures in
    let p = err_from_is_err_and c.from_residual.result c.from_residual.ensures.1 in
    let cause = subst (λ k. IsWriteRefusal (FrameFits (form g.H.BlockHash.hash64 g.H.BlockHash.hash128 k) (length (block_frames (form g.H.BlockHash.hash64 g.H.BlockHash.hash128 k) c.loop-cut.core.blocks)) (map entry c.split_at.result.0.now) → ⊥) c.in_err-add_block.field-0.0) same c.in_err-add_block.ensures.cause in
    rw (p.1, p.2) (refusal_on _ _ _ cause (fits_next (form g.H.BlockHash.hash64 g.H.BlockHash.hash128 c.args.config) _ _ _ _ step))

pub loop-cut-preserved : goal.loop-cut-preserved
loop-cut-preserved g c =
    let i = c.loop-cut.invariant in
    let n = next_cut _ _ c.loop-cut.cut-index c.args.cuts.now c.loop-cut-test.true i.cuts_left in
    let entry = g.T.AsEntry.entry in
    let items = map entry c.args.items.now in
    let rest = back_mapped entry c.loop-cut.start c.args.items.now c.loop-cut.rest.now i.rest in
    let front = front_mapped entry _ c.loop-cut.rest.now c.split_at.result.0.now c.split_at.ensures.front in
    let step = step_is c.loop-cut.core.blocks c.loop-cut.start c.loop-cut.cut-index c.args.cuts.now items _ _ _ c.loop-cut-test.true rest front i.so_far in
    let e = c.in_ok-add_block.ensures in
    record {
      config = e.config ∙ i.config;
      so_far = so_far_is _ _ _ _ _ e.accepted step;
      rest = rest_is c.loop-cut.start (get_or c.args.cuts.now c.loop-cut.cut-index 0) _ _ _ (omega arith) i.rest c.split_at.ensures.back;
      cuts_left = n.2;
      reliable = λ r. e.writer.1.1 (i.reliable r);
      bytes = rw e.config (bytes_next (form g.H.BlockHash.hash64 g.H.BlockHash.hash128 c.loop-cut.core.config) _ _ _ _ _ _ i.bytes e.bytes e.accepted);
    }

pub returns-in_err-add_block-2-clause-cause : goal.returns-in_err-add_block-2-clause-cause
returns-in_err-add_block-2-clause-cause g c =
    let i = c.loop-cut.invariant in
    let entry = g.T.AsEntry.entry in
    let items = map entry c.args.items.now in
    let rest = back_mapped entry c.loop-cut.start c.args.items.now c.loop-cut.rest.now i.rest in
    let last = last_is c.loop-cut.core.blocks c.loop-cut.start c.loop-cut.cut-index c.args.cuts.now items _ _ c.loop-cut-test.false rest i.so_far in
    let same : c.loop-cut.core.config ≡ c.args.config = i.config ∙ ap (λ (w : Written). w.config) c.new-core.ensures in
    let p = err_from_is_err_and c.from_residual-in_err-add_block-2.result c.from_residual-in_err-add_block-2.ensures.1 in
    let cause = subst (λ k. IsWriteRefusal (FrameFits (form g.H.BlockHash.hash64 g.H.BlockHash.hash128 k) (length (block_frames (form g.H.BlockHash.hash64 g.H.BlockHash.hash128 k) c.loop-cut.core.blocks)) (map entry c.loop-cut.rest.now) → ⊥) c.in_err-add_block-2.field-0.0) same c.in_err-add_block-2.ensures.cause in
    rw (p.1, p.2) (refusal_on _ _ _ cause (fits_next (form g.H.BlockHash.hash64 g.H.BlockHash.hash128 c.args.config) _ _ _ _ last))

pub returns-clause-layout : goal.returns-clause-layout
returns-clause-layout g c =
    let i = c.loop-cut.invariant in
    let e = c.in_ok-add_block-2.ensures in
    let entry = g.T.AsEntry.entry in
    let items = map entry c.args.items.now in
    let rest = back_mapped entry c.loop-cut.start c.args.items.now c.loop-cut.rest.now i.rest in
    let last = last_is c.loop-cut.core.blocks c.loop-cut.start c.loop-cut.cut-index c.args.cuts.now items _ _ c.loop-cut-test.false rest i.so_far in
    let same : c.loop-cut.core.config ≡ c.args.config = i.config ∙ ap (λ (w : Written). w.config) c.new-core.ensures in
    let so_far = subst (λ k. Appends (g.W.Write.contents c.args.writer.now) (g.W.Write.contents c.add_block-2.new.writer) (block_frames (form g.H.BlockHash.hash64 g.H.BlockHash.hash128 k) c.add_block-2.new.self.blocks)) (sym e.config)
    (bytes_next (form g.H.BlockHash.hash64 g.H.BlockHash.hash128 c.loop-cut.core.config) _ _ _ _ _ _ i.bytes e.bytes e.accepted) in
    subst (λ k. IfOk c.finish.result (AppendsLayout (form g.H.BlockHash.hash64 g.H.BlockHash.hash128 k) (blocks_of c.args.cuts.now items) (g.W.Write.contents c.args.writer.now) (g.W.Write.contents c.finish.new.writer))) (e.config ∙ same)
    (layout_end (form g.H.BlockHash.hash64 g.H.BlockHash.hash128 c.add_block-2.new.self.config) _ _ _ _ _ c.finish.result (e.accepted ∙ last) so_far c.finish.ensures.layout)

pub returns-clause-sound : goal.returns-clause-sound
returns-clause-sound g c = sound_appended (form g.H.BlockHash.hash64 g.H.BlockHash.hash128 c.args.config) _ _ _ c.finish.result (returns-clause-layout g c)

pub loop-cut-init : goal.loop-cut-init
loop-cut-init g c = record {
  config = search rules;
  so_far = search rules;
  rest = search rules;
  cuts_left = cuts_left 0 (length c.args.items.now) c.args.cuts.now c.requires.some c.requires.cuts;
  reliable = λ r. r;
  bytes = search rules;
}

pub add_block-requires-2-clause-follows : goal.add_block-requires-2-clause-follows
add_block-requires-2-clause-follows g c =
    let i = c.loop-cut.invariant in
    let entry = g.T.AsEntry.entry in
    let items = map entry c.args.items.now in
    let rest = back_mapped entry c.loop-cut.start c.args.items.now c.loop-cut.rest.now i.rest in
    let last = last_is c.loop-cut.core.blocks c.loop-cut.start c.loop-cut.cut-index c.args.cuts.now items _ _ c.loop-cut-test.false rest i.so_far in
    let left : c.loop-cut.start < length c.args.items.now = subst (CutsLeft c.loop-cut.start (length c.args.items.now)) (drop_all c.loop-cut.cut-index c.args.cuts.now c.loop-cut-test.false) i.cuts_left in
    record {
      some = (let count = length-map c.loop-cut.rest.now entry in let r = ap length i.rest in let l = length-drop c.loop-cut.start c.args.items.now in omega (arith, count, r, l, left));
      ordered = order_next _ _ _ _ _ last (c.blocks_are_the_list.ensures items c.args.cuts.now (let count = length-map c.args.items.now entry in omega (arith, count, c.requires.some)) (subst (λ n. CutsFit 0 n c.args.cuts.now) (sym (length-map c.args.items.now entry)) c.requires.cuts)).0 c.requires.ordered;
    }

pub returns-clause-cause : goal.returns-clause-cause
returns-clause-cause g c =
    let i = c.loop-cut.invariant in
    let e = c.in_ok-add_block-2.ensures in
    let entry = g.T.AsEntry.entry in
    let items = map entry c.args.items.now in
    let rest = back_mapped entry c.loop-cut.start c.args.items.now c.loop-cut.rest.now i.rest in
    let last = last_is c.loop-cut.core.blocks c.loop-cut.start c.loop-cut.cut-index c.args.cuts.now items _ _ c.loop-cut-test.false rest i.so_far in
    let same : c.loop-cut.core.config ≡ c.args.config = i.config ∙ ap (λ (w : Written). w.config) c.new-core.ensures in
    subst (λ k. IfErr c.finish.result (IsWriteRefusal (RunFits (form g.H.BlockHash.hash64 g.H.BlockHash.hash128 k) (blocks_of c.args.cuts.now items) → ⊥))) (e.config ∙ same)
    (subst (λ bs. IfErr c.finish.result (IsWriteRefusal (RunFits (form g.H.BlockHash.hash64 g.H.BlockHash.hash128 c.add_block-2.new.self.config) bs → ⊥))) (e.accepted ∙ last) c.finish.ensures.cause)
