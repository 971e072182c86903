use Rattle.std.proofs.Common.{arith}
use Rattle.sst_calls.proofs.Lists.Fronts.{behind_all, filled_more}
use Rattle.sst_calls.proofs.fronts.write_fronts.Goals as goal

pub returns-in_default-clause-rest : goal.returns-in_default-clause-rest
returns-in_default-clause-rest c = behind_all c.args.prefix.now c.args.handles c.loop-handle.handle-iterator c.loop-handle.at c.args.fronts.now c.loop-handle.fronts c.loop-handle.invariant

pub loop-handle-preserved : goal.loop-handle-preserved
loop-handle-preserved c =
    let filled = c.loop-handle.invariant in
    filled_more c.args.prefix.now c.args.handles c.loop-handle.handle-iterator c.loop-handle.at c.args.fronts.now c.loop-handle.fronts filled c.in-Some.handle c.next.new.self c.in-Some-front_of_end.front c.in-Some.ensures.steps (omega (arith, filled.len, c.requires)) c.in-Some-front_of_end.ensures
