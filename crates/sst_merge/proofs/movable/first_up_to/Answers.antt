use Rattle.std.proofs.Common.{◌+◌, cond, map, subst}
use Rattle.sst_merge.specs.Movable.{IsFrontAmong}
use Rattle.sst_merge.specs.Moved.{windows}
use Rattle.sst_merge.proofs.Moving.MovedLaws.{front_among}
use Rattle.sst_merge.proofs.movable.first_up_to.Goals as goal

pub returns-then-precedes-clause-among : goal.returns-then-precedes-clause-among
returns-then-precedes-clause-among g c = λ known.
    subst (λ t. IsFrontAmong g.T.Ranked.cmp (windows (map g.I.Movable.moved c.args.sources.now)) (c.args.i + 1) (cond t c.args.i c.args.first)) c.if-precedes.true
    (front_among g.T.Ranked.cmp g.T.Ranked.ordered g.I.Movable.moved c.args.sources.now c.args.i c.args.first c.index-sources-i.result c.index-sources-first.result _ _ c.precedes.result c.requires.inside c.requires.first c.index-sources-i.is c.index-sources-first.is c.requires.before c.first.ensures c.first-2.ensures c.precedes.ensures known)

pub returns-else-precedes-clause-among : goal.returns-else-precedes-clause-among
returns-else-precedes-clause-among g c = λ known.
    subst (λ t. IsFrontAmong g.T.Ranked.cmp (windows (map g.I.Movable.moved c.args.sources.now)) (c.args.i + 1) (cond t c.args.i c.args.first)) c.if-precedes.false
    (front_among g.T.Ranked.cmp g.T.Ranked.ordered g.I.Movable.moved c.args.sources.now c.args.i c.args.first c.index-sources-i.result c.index-sources-first.result _ _ c.precedes.result c.requires.inside c.requires.first c.index-sources-i.is c.index-sources-first.is c.requires.before c.first.ensures c.first-2.ensures c.precedes.ensures known)
