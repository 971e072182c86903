use Rattle.std.proofs.Common.{arith}
use Rattle.sst_merge.proofs.Moving.MovedLaws.{back_begins, back_found}
use Rattle.sst_merge.proofs.movable.last_source.Goals as goal

pub loop-i-init : goal.loop-i-init
loop-i-init g c = record { inside = omega (arith, c.requires); place = omega (arith, c.requires); last = back_begins g.T.Ranked.cmp g.T.Ranked.ordered g.I.Movable.moved c.args.sources.now }

pub returns-clause-pick : goal.returns-clause-pick
returns-clause-pick g c = back_found g.T.Ranked.cmp g.T.Ranked.ordered g.I.Movable.moved c.args.sources.now c.loop-i.i c.loop-i.last c.loop-i.invariant.inside (omega (arith, c.loop-i-test.false)) c.loop-i.invariant.last
