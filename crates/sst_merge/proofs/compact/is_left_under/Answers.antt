use Rattle.sst_sources.specs.ErrorLaws.{gives_more}
use Rattle.std.proofs.Common.{◌≡◌, ◌∷◌, ◌∙◌, Some, true, ap, sym, arith, rules}
use Rattle.std.proofs.lemmas.Result.{err_from_is_err_and}
use Rattle.std.specs.Option.{option_map}
use Rattle.sst_merge.specs.Compact.{compact_from, is_hidden, is_seen}
use Rattle.sst_merge.specs.CompactLaws.{repeated}
use Rattle.sst_sources.specs.Sources.{list_held, most_held, with_held}
use Rattle.sst_merge.specs.StepLaws.{mapped_step}
use Rattle.sst_merge.proofs.compact.is_left_under.Goals as goal

pub returns-in_err-item-clause-cause : goal.returns-in_err-item-clause-cause
returns-in_err-item-clause-cause g c =
    let p = err_from_is_err_and c.from_residual.result c.from_residual.ensures.1 in
    rw (p.1, p.2) (gives_more g.I.Source.may_fail (g.I.Source.left c.args.source.now.source) (g.I.Source.left c.loop-item.source.source) c.in_err-item.field-0.0 c.loop-item.invariant.no_more c.in_err-item.ensures.cause)

pub loop-item-preserved : goal.loop-item-preserved
loop-item-preserved g c =
    let first = rw c.in-Some.is at c.in_ok-item.ensures.first in
    let so_far = c.loop-item.invariant in
    let now = with_held c.loop-item.source.held (g.I.Source.left c.loop-item.source.source) in
    let before = with_held c.args.source.now.held (g.I.Source.left c.args.source.now.source) in
    let next = with_held c.take.new.self.held (g.I.Source.left c.take.new.self.source) in
    let seen : is_seen c.args.snapshots.now (g.T.AsEntry.entry c.in-Some.item).key.seqno ≡ true = search rules in
    let hidden : is_hidden g.T.AsEntry.entry c.args.snapshots.now (Some c.args.last.now) c.in-Some.item ≡ true = search rules in
    record {
      found = search rules;
      same = λ bottom. mapped_step (compact_from g.T.AsEntry.entry c.args.snapshots.now bottom (Some c.args.last.now)) c.in-Some.item now.list before.list next.list (so_far.same bottom) first.0
          (λ xs. repeated g.T.AsEntry.entry c.args.snapshots.now bottom (Some c.args.last.now) c.in-Some.item xs seen hidden);
      most = (let most = so_far.most in omega (arith, most, first.1));
      no_more = λ e met. so_far.no_more e (c.in_ok-item.ensures.no_more e met);
    }

pub returns-in-Some-clause-passed : goal.returns-in-Some-clause-passed
returns-in-Some-clause-passed g c =
    let first = rw c.in-Some.is at c.in_ok-item.ensures.first in
    let left = g.I.Source.left c.take.new.self.source in
    let list = first.0 ∙ ap (λ h. option_map (λ xs. c.in-Some.item ∷ xs) (list_held h left.list)) c.in_ok-item.ensures.free in
    let free = ap (λ h. most_held h left.most) c.in_ok-item.ensures.free in
    let most = c.loop-item.invariant.most in
    (λ bottom. ap (option_map (compact_from g.T.AsEntry.entry c.args.snapshots.now bottom (Some c.args.last.now))) (sym list) ∙ c.loop-item.invariant.same bottom, omega (arith, most, first.1, free))

pub returns-in-Some-clause-no_more : goal.returns-in-Some-clause-no_more
returns-in-Some-clause-no_more g c = λ e met. c.loop-item.invariant.no_more e (c.in_ok-item.ensures.no_more e met)

pub returns-clause-passed : goal.returns-clause-passed
returns-clause-passed g c =
    let first = rw c.in_default.is at c.in_ok-item.ensures.first in
    let most = c.loop-item.invariant.most in
    (λ bottom. ap (option_map (compact_from g.T.AsEntry.entry c.args.snapshots.now bottom (Some c.args.last.now))) first.0 ∙ c.loop-item.invariant.same bottom, omega (arith, most, first.2))

pub returns-clause-no_more : goal.returns-clause-no_more
returns-clause-no_more g c = λ e met. c.loop-item.invariant.no_more e (c.in_ok-item.ensures.no_more e met)
