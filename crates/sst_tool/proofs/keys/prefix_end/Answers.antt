use Rattle.std.proofs.Common.{◌∙◌, arith}
use Rattle.sst_tool.proofs.Scanning.Prefixes.{end_of_full, end_of_less}
use Rattle.sst_tool.proofs.keys.prefix_end.Goals as goal

pub returns-then-last-lt255 : goal.returns-then-last-lt255
returns-then-last-lt255 c =
    let less = end_of_less c.loop-last.end.items c.pop.new.self.items c.in-Some.last c.in-Some.ensures.items c.if-last-lt255.true in
    let before = c.loop-last.invariant in
    let pushed = c.in_ok-push.ensures.items in
    grind (arith, less, before, pushed)

pub loop-last-preserved : goal.loop-last-preserved
loop-last-preserved c = c.loop-last.invariant ∙ end_of_full c.loop-last.end.items c.pop.new.self.items c.in-Some.last c.in-Some.ensures.items c.if-last-lt255.false
