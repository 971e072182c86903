use Rattle.sst_sources.specs.ErrorLaws.{gives_more}
use Rattle.std.proofs.Common.{rules}
use Rattle.std.proofs.lemmas.Result.{err_from_is_err_and}
use Rattle.sst_tool.proofs.seen_back.next_seen.Goals as goal

pub returns-in_err-entry-clause-cause : goal.returns-in_err-entry-clause-cause
returns-in_err-entry-clause-cause g c =
    let p = err_from_is_err_and c.from_residual.result c.from_residual.ensures.1 in
    rw (p.1, p.2) (gives_more g.I.Source.may_fail (g.I.Source.left c.args.source.now) (g.I.Source.left c.loop-entry.source) c.in_err-entry.field-0.0 c.loop-entry.invariant.no_more c.in_err-entry.ensures.cause)

pub returns-then-is_some-clause-no_more : goal.returns-then-is_some-clause-no_more
returns-then-is_some-clause-no_more g c = λ e met. c.loop-entry.invariant.no_more e (c.in_ok-entry.ensures.no_more e met)

pub returns-clause-no_more : goal.returns-clause-no_more
returns-clause-no_more g c = λ e met. c.loop-entry.invariant.no_more e (c.in_ok-entry.ensures.no_more e met)

pub loop-entry-preserved : goal.loop-entry-preserved
loop-entry-preserved g c = record {
  less = search rules;
  no_more = λ e met. c.loop-entry.invariant.no_more e (c.in_ok-entry.ensures.no_more e met);
}
