use Rattle.std.proofs.Common.{◌≡◌, ◌-◌, length, drop, arith, refl, ◌∙◌, ap, sym, subst, inl, inr}
use Rattle.std.specs.Prelude.{IfSome}
use Rattle.std.proofs.lemmas.Result.{err_from_is_err_and}
use Rattle.std.proofs.lemmas.List.{length-set}
use Rattle.sstable_blocks.specs.Prelude.{CountsBetween, entries, first_match}
use Rattle.sst_merge.specs.CountLaws.{count_more, front_same, none_counted, within_all}
use Rattle.sst_merge.specs.ReaderLaws.{matches, none_read, one_fails, read_more, kept_more, read_is_merge}
use Rattle.sst_sources.specs.Sources.{all_known}
use Rattle.sst_merge.proofs.reader.read_tables.Goals as goal

pub loop-i-init : goal.loop-i-init
loop-i-init g c = record {
  inside = omega arith;
  kept = refl;
  same = λ k d less. refl;
  counts = λ mosts known. none_counted c.args.steps.now (drop (length c.args.readers.now) mosts);
  found = λ lists known. none_read g.R.Reader.list c.args.needle.now c.args.seqno c.args.readers.now lists known;
}

pub returns-in_err-found-clause-kept : goal.returns-in_err-found-clause-kept
returns-in_err-found-clause-kept g c = kept_more g.R.Reader.list c.args.needle.now c.args.seqno c.loop-i.readers (c.loop-i.i - 1) c.index-readers-i.result c.get.new.self _ c.loop-i.invariant.kept c.index-readers-i.is
    (c.get.ensures.kept ∙ ap g.R.Reader.list (sym c.index-readers-i.is))

pub loop-i-preserved : goal.loop-i-preserved
loop-i-preserved g c = record {
  inside = (let n = length-set c.loop-i.readers (c.loop-i.i - 1) c.get.new.self in let w = c.loop-i.invariant.inside in omega (arith, n, w));
  kept = kept_more g.R.Reader.list c.args.needle.now c.args.seqno c.loop-i.readers (c.loop-i.i - 1) c.index-readers-i.result c.get.new.self _ c.loop-i.invariant.kept c.index-readers-i.is
      (c.get.ensures.kept ∙ ap g.R.Reader.list (sym c.index-readers-i.is));
  same = front_same c.loop-i.readers c.args.readers.now (c.loop-i.i - 1) c.loop-i.i c.get.new.self c.loop-i.invariant.same (omega arith);
  counts = λ mosts known. count_more (λ r. g.R.Reader.most r c.args.needle.now c.args.seqno) c.args.readers.now mosts (c.loop-i.i - 1) c.loop-i.i c.index-readers-i.result c.args.steps.now c.loop-i.steps c.get.new.steps
      known (let w = c.loop-i.invariant.inside in omega (arith, w, c.loop-i.auto.readers)) (omega arith) (c.index-readers-i.is ∙ c.loop-i.invariant.same (c.loop-i.i - 1) c.index-readers-i.result (omega arith))
      (c.loop-i.invariant.counts mosts known) (subst (λ x. IfSome (g.R.Reader.most x c.args.needle.now c.args.seqno) (CountsBetween c.loop-i.steps c.get.new.steps (0, 0))) (sym c.index-readers-i.is) c.get.ensures.counts);
  found = λ lists known. read_more g.R.Reader.list c.args.needle.now c.args.seqno c.loop-i.readers lists (c.loop-i.i - 1) c.loop-i.i c.index-readers-i.result c.in_ok-found.found c.loop-i.best c.lesser-best.result
      (ap all_known c.loop-i.invariant.kept ∙ known) (let w = c.loop-i.invariant.inside in omega (arith, w)) (omega arith) c.index-readers-i.is
      (subst (λ x. IfSome (g.R.Reader.list x) (λ all. c.in_ok-found.found ≡ first_match entries c.args.needle.now c.args.seqno all)) (sym c.index-readers-i.is) c.in_ok-found.ensures.found)
      (c.loop-i.invariant.found lists known) c.lesser-best.ensures;
}

pub returns-clause-found : goal.returns-clause-found
returns-clause-found g c = λ lists known.
    let z : c.loop-i.i ≡ 0 = omega arith in
    read_is_merge g.R.Reader.list c.args.needle.now c.args.seqno g.R.Reader.ordered c.args.readers.now lists c.loop-i.best known (c.loop-i.invariant.found lists known ∙ ap (λ i. matches c.args.needle.now c.args.seqno (drop i lists)) z)

pub returns-in_err-found-clause-counts : goal.returns-in_err-found-clause-counts
returns-in_err-found-clause-counts g c = λ mosts known. within_all c.args.steps.now c.get.new.steps mosts (c.loop-i.i - 1)
    (count_more (λ r. g.R.Reader.most r c.args.needle.now c.args.seqno) c.args.readers.now mosts (c.loop-i.i - 1) c.loop-i.i c.index-readers-i.result c.args.steps.now c.loop-i.steps c.get.new.steps
    known (let w = c.loop-i.invariant.inside in omega (arith, w, c.loop-i.auto.readers)) (omega arith) (c.index-readers-i.is ∙ c.loop-i.invariant.same (c.loop-i.i - 1) c.index-readers-i.result (omega arith))
    (c.loop-i.invariant.counts mosts known) (subst (λ x. IfSome (g.R.Reader.most x c.args.needle.now c.args.seqno) (CountsBetween c.loop-i.steps c.get.new.steps (0, 0))) (sym c.index-readers-i.is) c.get.ensures.counts))

pub returns-clause-counts : goal.returns-clause-counts
returns-clause-counts g c = λ mosts known. within_all c.args.steps.now c.loop-i.steps mosts c.loop-i.i (c.loop-i.invariant.counts mosts known)

pub returns-in_err-found-clause-cause : goal.returns-in_err-found-clause-cause
returns-in_err-found-clause-cause g c =
    let p = err_from_is_err_and c.from_residual.result c.from_residual.ensures.1 in
    rw (p.1, p.2) (elim c.in_err-found.ensures.cause [
      | inl memory ↦ inl memory
      | inr fails ↦ inr (one_fails (λ r. g.R.Reader.may_fail r c.args.needle.now c.args.seqno c.in_err-found.field-0.0) c.args.readers.now (c.loop-i.i - 1) c.index-readers-i.result
          (let w = c.loop-i.invariant.inside in omega (arith, w, c.loop-i.auto.readers)) (c.index-readers-i.is ∙ c.loop-i.invariant.same (c.loop-i.i - 1) c.index-readers-i.result (omega arith))
          (subst (λ x. g.R.Reader.may_fail x c.args.needle.now c.args.seqno c.in_err-found.field-0.0) (sym c.index-readers-i.is) fails))
    ])
