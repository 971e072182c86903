use Rattle.std.proofs.Common.{◌∙◌, ap, refl, arith, inl, inr, Ok, Err}
use Rattle.std.proofs.lemmas.Result.{err_from_is_err_and}
use Rattle.std.proofs.KnownBytes.{Keeps-refl}
use Rattle.sst_program.proofs.Results.Outcomes.{prints_nothing, prints_more}
use Rattle.sst_program.proofs.TableFiles.TableReads.{known_both, known_all, known_one, read_step, read_whole, read_over, prints_start, prints_next, prints_all, prints_refused, prints_first, prints_io_on, kept_unless}
use Rattle.sst_program.proofs.walk.print_blocks.Goals as goal

pub loop-item-init : goal.loop-item-init
loop-item-init g c = record {
  same = refl;
  failures_grow = omega arith;
  kept = λ r. r;
  lines = prints_nothing _;
  known = known_all _ _ (λ all. prints_start _ _ _ (read_whole all _ _ (ap (λ s. s.window) c.into_iter-item-iterator.ensures.into_iter_gives ∙ c.iter-item-items.ensures.window)));
}

pub loop-item-preserved : goal.loop-item-preserved
loop-item-preserved g c =
    let i = c.loop-item.invariant in
    let e = c.in_ok-print_block.ensures in
    record {
      same = e.source.same ∙ i.same;
      failures_grow = omega (arith, i.failures_grow, e.source.failures_grow);
      kept = λ r. e.source.kept (i.kept r);
      lines = prints_more _ _ _ i.lines e.printed;
      known = known_both _ _ _ _ _ i.same (λ all p q. prints_next _ _ _ _ _ _ q.0 p (read_step all _ _ _ _ (Ok q.0) c.new-handle.ensures c.in-Some.ensures.steps q.1) q.2) i.known e.exact;
    }

pub returns-in_err-print_block-clause-refused : goal.returns-in_err-print_block-clause-refused
returns-in_err-print_block-clause-refused g c =
    let i = c.loop-item.invariant in
    let e = c.in_err-print_block.ensures in
    let r = err_from_is_err_and c.from_residual.result c.from_residual.ensures.1 in
    rw (r.1, r.2) (known_both _ _ _ _ _ i.same (λ all p q. λ not_memory not_io. elim (q not_memory not_io) [
      | inl past ↦ inl (
        past.0,
        omega (arith, past.1, i.failures_grow),
        prints_refused _ _ _ _ _ _ _ p (read_step all _ _ _ _ (Err _) c.new-handle.ensures c.in-Some.ensures.steps past.2) (kept_unless _ _ _ not_io e.kept),
      )
      | inr same ↦ inr (prints_refused _ _ _ _ _ _ _ p (read_step all _ _ _ _ (Err _) c.new-handle.ensures c.in-Some.ensures.steps same) (kept_unless _ _ _ not_io e.kept))
    ]) i.known e.refused)

pub returns-in_err-print_block-clause-first : goal.returns-in_err-print_block-clause-first
returns-in_err-print_block-clause-first g c =
    let r = err_from_is_err_and c.from_residual.result c.from_residual.ensures.1 in
    rw (r.1, r.2) (known_one _ _ _ (λ all p. elim c.in_err-print_block.ensures.kept [
      | inl io ↦ inl io
      | inr kept ↦ inr (prints_first _ _ _ _ _ p kept)
    ]) c.loop-item.invariant.known)

pub returns-clause-exact : goal.returns-clause-exact
returns-clause-exact g c = known_one _ _ _ (λ all p. prints_all _ _ _ _ p (read_over all _ _ c.in-None.ensures.steps) (Keeps-refl _)) c.loop-item.invariant.known

pub returns-in_err-print_block-clause-io : goal.returns-in_err-print_block-clause-io
returns-in_err-print_block-clause-io g c =
    let i = c.loop-item.invariant in
    let e = c.in_err-print_block.ensures in
    let r = err_from_is_err_and c.from_residual.result c.from_residual.ensures.1 in
    rw (r.1, r.2) (prints_io_on _ _ _ _ _ _ _ _ _ _ _ _ _ _ i.same i.known c.new-handle.ensures c.in-Some.ensures.steps (λ less. omega (arith, less, i.failures_grow)) i.kept e.io)
