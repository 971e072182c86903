use Rattle.sst_sources.specs.ErrorLaws.{gives_more}
use Rattle.std.proofs.Common.{arith, rules}
use Rattle.std.proofs.lemmas.Result.{err_from_is_err_and}
use Rattle.sst_merge.proofs.snapshot.next_seen.Goals as goal

pub returns-in_err-item-clause-cause : goal.returns-in_err-item-clause-cause
returns-in_err-item-clause-cause g c =
    let p = err_from_is_err_and c.from_residual.result c.from_residual.ensures.1 in
    rw (p.1, p.2) (gives_more g.I.Source.may_fail (g.I.Source.left c.args.source.now) (g.I.Source.left c.loop-item.source) c.in_err-item.field-0.0 c.loop-item.invariant.no_more c.in_err-item.ensures.cause)

pub returns-then-not-is_tombstone-clause-no_more : goal.returns-then-not-is_tombstone-clause-no_more
returns-then-not-is_tombstone-clause-no_more g c = λ e met. c.loop-item.invariant.no_more e (c.in_ok-item.ensures.no_more e met)

pub returns-clause-no_more : goal.returns-clause-no_more
returns-clause-no_more g c = λ e met. c.loop-item.invariant.no_more e (c.in_ok-item.ensures.no_more e met)

pub loop-item-preserved : goal.loop-item-preserved
loop-item-preserved g c = record {
  list = search rules;
  most = (let first = rw c.in-Some.is at c.in_ok-item.ensures.first in let before = c.loop-item.invariant.most in omega (arith, before, first.1));
  no_more = λ e met. c.loop-item.invariant.no_more e (c.in_ok-item.ensures.no_more e met);
}

pub loop-item-preserved-then-seqno : goal.loop-item-preserved-then-seqno
loop-item-preserved-then-seqno g c = record {
  list = search rules;
  most = (let first = rw c.in-Some.is at c.in_ok-item.ensures.first in let before = c.loop-item.invariant.most in omega (arith, before, first.1));
  no_more = λ e met. c.loop-item.invariant.no_more e (c.in_ok-item.ensures.no_more e met);
}
