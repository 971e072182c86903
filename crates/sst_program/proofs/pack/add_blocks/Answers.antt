use Rattle.std.proofs.Common.{◌≤◌, length, ◌∙◌, ◌∷◌, [], ◌++◌, ap, sym, subst, map-id, arith}
use Rattle.std.proofs.lemmas.Result.{err_from_is_err_and}
use Rattle.sstable_blocks.specs.Run.{block_frames}
use Rattle.sstable_blocks.specs.RunLaws.{refusal_on}
use Rattle.sstable_blocks.specs.Writing.{Follows, FrameFits, IsWriteRefusal}
use Rattle.sst_program.specs.Table.{sst_form}
use Rattle.sst_program.proofs.Results.Outcomes.{some-from_test}
use Rattle.sst_program.proofs.TableFiles.Tables.{all-next, ordered-next, size-next, full-next, too-long}
use Rattle.sst_program.proofs.pack.add_blocks.Goals as goal

pub add_block-requires : goal.add_block-requires
add_block-requires g c =
    let some : 1 ≤ length c.loop-rest.rest.now = some-from_test _ c.loop-rest-test.ensures in
    subst (Follows c.loop-rest.run.blocks) (sym (map-id c.split_at.result.0.now)) (record {
      some = omega (arith, c.split_at.ensures.front_len, c.min.ensures, c.requires.per_block);
      ordered = ordered-next c.loop-rest.run.blocks c.split_at.result.0.now c.split_at.result.1.now c.loop-rest.rest.now c.args.items.now c.loop-rest.invariant.all c.split_at.ensures.by_index.0 c.requires.ordered;
    })

pub loop-rest-preserved : goal.loop-rest-preserved
loop-rest-preserved g c =
    let i = c.loop-rest.invariant in
    let e = c.in_ok-add_block.ensures in
    let blocks = e.blocks ∙ ap (λ b. c.loop-rest.run.blocks ++ b ∷ []) (map-id c.split_at.result.0.now) in
    let some : 1 ≤ length c.loop-rest.rest.now = some-from_test _ c.loop-rest-test.ensures in
    let front : 1 ≤ length c.split_at.result.0.now = omega (arith, c.split_at.ensures.front_len, c.min.ensures, c.requires.per_block) in
    let most : length c.split_at.result.0.now ≤ c.args.per_block = omega (arith, c.split_at.ensures.front_len, c.min.ensures) in
    record {
      config = e.run.config ∙ i.config;
      start = e.run.start ∙ i.start;
      accepting = e.refusal;
      reliable = λ n. (e.writer i.accepting).1.1 (i.reliable n);
      all = rw blocks (all-next c.loop-rest.run.blocks c.split_at.result.0.now c.split_at.result.1.now c.loop-rest.rest.now c.args.items.now i.all c.split_at.ensures.by_index.0);
      sizes = rw blocks (size-next c.args.per_block c.loop-rest.run.blocks c.split_at.result.0.now (i.full some) front most);
      full = λ more. rw blocks (full-next c.args.per_block c.loop-rest.run.blocks c.split_at.result.0.now (i.full some) (omega (arith, c.split_at.ensures.front_len, c.split_at.ensures.back_len, c.min.ensures, more)));
    }

pub returns-in_err-add_block-clause-cause : goal.returns-in_err-add_block-clause-cause
returns-in_err-add_block-clause-cause g c =
    let i = c.loop-rest.invariant in
    let run = c.loop-rest.run in
    let front = c.split_at.result.0.now in
    let f = sst_form run.config in
    let some : 1 ≤ length c.loop-rest.rest.now = some-from_test _ c.loop-rest-test.ensures in
    let least : 1 ≤ length front = omega (arith, c.split_at.ensures.front_len, c.min.ensures, c.requires.per_block) in
    let most : length front ≤ c.args.per_block = omega (arith, c.split_at.ensures.front_len, c.min.ensures) in
    let p = err_from_is_err_and c.from_residual.result c.from_residual.ensures.1 in
    let cause = subst (λ b. IsWriteRefusal (FrameFits f (length (block_frames f run.blocks)) b → ⊥) c.in_err-add_block.field-0.0) (map-id front) (c.in_err-add_block.ensures.cause i.accepting) in
    rw (p.1, p.2) (refusal_on _ _ _ cause (too-long _ run.config c.args.per_block run.blocks front c.split_at.result.1.now c.loop-rest.rest.now c.args.items.now i.config i.all c.split_at.ensures.by_index.0 (i.full some) least most))
