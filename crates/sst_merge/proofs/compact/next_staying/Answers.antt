use Rattle.sst_sources.specs.ErrorLaws.{gives_more}
use Rattle.std.proofs.Common.{◌≡◌, ◌∙◌, true, false, sym, arith, rules}
use Rattle.std.proofs.lemmas.Result.{err_from_is_err_and}
use Rattle.sstable_blocks.specs.Results.{Error}
use Rattle.sst_merge.specs.Compact.{is_hidden, is_seen}
use Rattle.sst_sources.specs.Sources.{MayMeet, with_held}
use Rattle.sst_merge.specs.StepLaws.{fresh_step}
use Rattle.sst_merge.proofs.compact.next_staying.Goals as goal

pub returns-in-Err-clause-cause : goal.returns-in-Err-clause-cause
returns-in-Err-clause-cause g c =
    gives_more g.I.Source.may_fail (g.I.Source.left c.args.source.now.source) (g.I.Source.left c.loop-item.source.source) c.in-Err.error c.loop-item.invariant.no_more c.in-Err.ensures.cause

pub returns-then-not-is_seen-clause-no_more : goal.returns-then-not-is_seen-clause-no_more
returns-then-not-is_seen-clause-no_more g c = λ e met. c.loop-item.invariant.no_more e (c.in-Ok-Some.ensures.no_more e met)

pub loop-item-preserved-then-is_hidden_by : goal.loop-item-preserved-then-is_hidden_by
loop-item-preserved-then-is_hidden_by g c =
    let first = rw c.in-Ok-Some.field-0-is at c.in-Ok-Some.ensures.first in
    let before = c.loop-item.invariant in
    record {
      list = search rules;
      most = (let most = before.most in omega (arith, most, first.1));
      no_more = λ e met. before.no_more e (c.in-Ok-Some.ensures.no_more e met);
    }

pub returns-in_err-goes-clause-cause : goal.returns-in_err-goes-clause-cause
returns-in_err-goes-clause-cause g c =
    let p = err_from_is_err_and c.from_residual-in_err-goes.result c.from_residual-in_err-goes.ensures.1 in
    let less = λ (e : Error) (met : MayMeet (g.I.Source.left c.take.new.self.source) e). c.loop-item.invariant.no_more e (c.in-Ok-Some.ensures.no_more e met) in
    rw (p.1, p.2) (gives_more g.I.Source.may_fail (g.I.Source.left c.args.source.now.source) (g.I.Source.left c.take.new.self.source) c.in_err-goes.field-0.0 less c.in_err-goes.ensures.cause)

pub returns-then-not-goes-clause-first : goal.returns-then-not-goes-clause-first
returns-then-not-goes-clause-first g c =
    let entry = g.T.AsEntry.entry in
    let bottom = g.B.Bottom.at_bottom c.args.bottom.now in
    let first = rw c.in-Ok-Some.field-0-is at c.in-Ok-Some.ensures.first in
    let before = c.loop-item.invariant in
    let now = with_held c.loop-item.source.held (g.I.Source.left c.loop-item.source.source) in
    let next = with_held c.take.new.self.held (g.I.Source.left c.take.new.self.source) in
    let after = with_held c.goes.new.source.held (g.I.Source.left c.goes.new.source.source) in
    let item = c.in-Ok-Some.item in
    let key : (entry item).key.user_key ≡ c.in_ok-of.field-0 = search rules in
    let number : (entry item).key.seqno ≡ c.seqno-seqno.result = search rules in
    let seen : is_seen c.args.snapshots.now (entry item).key.seqno ≡ true = search rules in
    let fresh : is_hidden entry c.args.snapshots.now c.loop-item.last item ≡ false = search rules in
    let passed = c.in_ok-goes.ensures.passed in
    let step = fresh_step entry c.args.snapshots.now bottom c.loop-item.last c.in_ok-of.field-0 c.seqno-seqno.result item now.list next.list after.list c.in_ok-goes.goes key number seen fresh first.0 c.in_ok-goes.ensures.found (passed.0 bottom) in
    (sym before.list ∙ rw c.if-not-goes.true at step, (let most = before.most in omega (arith, most, first.1, passed.1)))

pub returns-then-not-goes-clause-no_more : goal.returns-then-not-goes-clause-no_more
returns-then-not-goes-clause-no_more g c = λ e met. c.loop-item.invariant.no_more e (c.in-Ok-Some.ensures.no_more e (c.in_ok-goes.ensures.no_more e met))

pub loop-item-preserved : goal.loop-item-preserved
loop-item-preserved g c =
    let entry = g.T.AsEntry.entry in
    let bottom = g.B.Bottom.at_bottom c.args.bottom.now in
    let first = rw c.in-Ok-Some.field-0-is at c.in-Ok-Some.ensures.first in
    let before = c.loop-item.invariant in
    let now = with_held c.loop-item.source.held (g.I.Source.left c.loop-item.source.source) in
    let next = with_held c.take.new.self.held (g.I.Source.left c.take.new.self.source) in
    let after = with_held c.goes.new.source.held (g.I.Source.left c.goes.new.source.source) in
    let item = c.in-Ok-Some.item in
    let key : (entry item).key.user_key ≡ c.in_ok-of.field-0 = search rules in
    let number : (entry item).key.seqno ≡ c.seqno-seqno.result = search rules in
    let seen : is_seen c.args.snapshots.now (entry item).key.seqno ≡ true = search rules in
    let fresh : is_hidden entry c.args.snapshots.now c.loop-item.last item ≡ false = search rules in
    let passed = c.in_ok-goes.ensures.passed in
    let step = fresh_step entry c.args.snapshots.now bottom c.loop-item.last c.in_ok-of.field-0 c.seqno-seqno.result item now.list next.list after.list c.in_ok-goes.goes key number seen fresh first.0 c.in_ok-goes.ensures.found (passed.0 bottom) in
    record {
      list = sym (rw c.if-not-goes.false at step) ∙ before.list;
      most = (let most = before.most in omega (arith, most, first.1, passed.1));
      no_more = λ e met. before.no_more e (c.in-Ok-Some.ensures.no_more e (c.in_ok-goes.ensures.no_more e met));
    }

pub returns-in-Ok-None-clause-no_more : goal.returns-in-Ok-None-clause-no_more
returns-in-Ok-None-clause-no_more g c = λ e met. c.loop-item.invariant.no_more e (c.in-Ok-None.ensures.no_more e met)
