use Rattle.std.proofs.Common.{◌∙◌, ap, sym, arith, rules}
use Rattle.std.specs.Prelude.{not}
use Rattle.sst_tool.proofs.Scanning.Follows.{follows, astray}
use Rattle.sst_tool.proofs.tidy.first_astray.Goals as goal

pub returns-then-deref-end-clause-follow : goal.returns-then-deref-end-clause-follow
returns-then-deref-end-clause-follow c =
    let none = astray c.args.index.now.items c.loop-number.number c.loop-number.end c.handle_at-handle.result c.handle_at-handle.ensures.range (search rules) in
    let before = c.loop-number.invariant.follow in
    grind (arith, none, before)

pub loop-number-preserved : goal.loop-number-preserved
loop-number-preserved c = record {
  inside = search (arith, rules);
  follow = c.loop-number.invariant.follow ∙ follows c.args.index.now.items c.loop-number.number c.loop-number.end c.handle_at-handle.result c.handle_at-handle.ensures.range (search rules) ∙ search rules;
}
