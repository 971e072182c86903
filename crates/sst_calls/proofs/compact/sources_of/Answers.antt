use Rattle.std.proofs.Common.{◌∙◌, ◌+◌, Some, arith, ap, sym, subst}
use Rattle.std.specs.List.{AllByRecursion}
use Rattle.sst_sources.specs.Sources.{step_errors}
use Rattle.sst_calls.specs.Ranges.{key_given, keys_between}
use Rattle.sst_calls.proofs.Lists.Compacting.{IsSafe, all_or, heads_all, heads_more, none_met, safe_push}
use Rattle.sst_calls.proofs.compact.sources_of.Goals as goal

pub entries_of-requires : goal.entries_of-requires
entries_of-requires c = all_or _ c.args.runs.now c.loop-run.run-index _ c.requires c.loop-run-test.true

pub loop-run-preserved : goal.loop-run-preserved
loop-run-preserved c =
    let keys = c.args.keys.now in
    let range = keys_between (key_given keys.has_from keys.from.now) (key_given keys.has_to keys.to.now) in
    let head = c.in_ok-new.field-0 in
    let now = c.loop-run.invariant in
    let i = c.loop-run.run-index in
    let safe : IsSafe head = none_met (step_errors head) (λ e met. c.in_ok-new.ensures.no_more e met) in
    record {
      lists = heads_more range c.args.runs.now i (i + 1) _ c.loop-run.sources.items c.push.new.self.items head now.lists c.in_ok-push.ensures.items c.loop-run-test.true (c.in_ok-new.ensures.list ∙ ap Some c.entries_of.ensures) (omega arith);
      errors = subst (λ heads. AllByRecursion IsSafe heads) (sym c.in_ok-push.ensures.items) (safe_push c.loop-run.sources.items head now.errors safe);
    }

pub returns-clause-lists : goal.returns-clause-lists
returns-clause-lists c =
    let keys = c.args.keys.now in
    let range = keys_between (key_given keys.has_from keys.from.now) (key_given keys.has_to keys.to.now) in
    heads_all range c.args.runs.now c.loop-run.run-index c.loop-run.sources.items c.loop-run.invariant.lists c.loop-run-test.false
