use Rattle.std.proofs.Common.{◌+◌, cond, map, subst}
use Rattle.sst_merge.specs.Movable.{IsBackAmong}
use Rattle.sst_merge.specs.Moved.{windows}
use Rattle.sst_merge.proofs.Moving.MovedLaws.{back_among}
use Rattle.sst_merge.proofs.movable.last_up_to.Goals as goal

pub returns-then-follows-clause-among : goal.returns-then-follows-clause-among
returns-then-follows-clause-among g c = λ known.
    subst (λ t. IsBackAmong g.T.Ranked.cmp (windows (map g.I.Movable.moved c.args.sources.now)) (c.args.i + 1) (cond t c.args.i c.args.last)) c.if-follows.true
    (back_among g.T.Ranked.cmp g.T.Ranked.ordered g.I.Movable.moved c.args.sources.now c.args.i c.args.last c.index-sources-i.result c.index-sources-last.result _ _ c.follows.result c.requires.inside c.requires.last c.index-sources-i.is c.index-sources-last.is c.requires.before c.last.ensures c.last-2.ensures c.follows.ensures known)

pub returns-else-follows-clause-among : goal.returns-else-follows-clause-among
returns-else-follows-clause-among g c = λ known.
    subst (λ t. IsBackAmong g.T.Ranked.cmp (windows (map g.I.Movable.moved c.args.sources.now)) (c.args.i + 1) (cond t c.args.i c.args.last)) c.if-follows.false
    (back_among g.T.Ranked.cmp g.T.Ranked.ordered g.I.Movable.moved c.args.sources.now c.args.i c.args.last c.index-sources-i.result c.index-sources-last.result _ _ c.follows.result c.requires.inside c.requires.last c.index-sources-i.is c.index-sources-last.is c.requires.before c.last.ensures c.last-2.ensures c.follows.ensures known)
