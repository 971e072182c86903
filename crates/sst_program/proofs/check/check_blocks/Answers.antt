use Rattle.std.proofs.Common.{◌∙◌, ap, refl, arith}
use Rattle.std.proofs.lemmas.Result.{err_from_is_err_and}
use Rattle.sst_program.proofs.TableFiles.TableReads.{known_all, read_whole, counts_start, counts_step_on, counts_all_on, counts_fail_on}
use Rattle.sst_program.proofs.check.check_blocks.Goals as goal

pub loop-item-init : goal.loop-item-init
loop-item-init g c = record {
  same = refl;
  failures_grow = omega arith;
  kept = λ r. r;
  grow = omega arith;
  known = known_all _ _ (λ all. counts_start _ _ (read_whole all _ _ (ap (λ s. s.window) c.into_iter-item-iterator.ensures.into_iter_gives ∙ c.iter-item-items.ensures.window)));
}

pub loop-item-preserved : goal.loop-item-preserved
loop-item-preserved g c =
    let i = c.loop-item.invariant in
    let e = c.in_ok-count.ensures in
    record {
      same = e.source.same ∙ i.same;
      failures_grow = omega (arith, i.failures_grow, e.source.failures_grow);
      kept = λ r. e.source.kept (i.kept r);
      grow = omega (arith, i.grow, e.source.asks);
      known = counts_step_on _ _ _ _ _ _ _ _ _ _ i.same i.known c.new-handle.ensures c.in-Some.ensures.steps e.exact c.saturating_add-entries.ensures;
    }

pub returns-in_err-count-clause-exact : goal.returns-in_err-count-clause-exact
returns-in_err-count-clause-exact g c =
    let i = c.loop-item.invariant in
    let e = c.in_err-count.ensures in
    let r = err_from_is_err_and c.from_residual.result c.from_residual.ensures.1 in
    rw (r.1, r.2) (counts_fail_on _ _ _ _ _ _ _ _ _ _ _ _ _ i.same i.known c.new-handle.ensures c.in-Some.ensures.steps (λ less. omega (arith, less, i.failures_grow)) i.kept e.exact)

pub returns-clause-exact : goal.returns-clause-exact
returns-clause-exact g c = counts_all_on _ _ _ _ _ c.loop-item.invariant.known c.in-None.ensures.steps
