use Rattle.std.proofs.Common.{◌≡◌, arith, length, subst}
use Rattle.sst_merge.proofs.Merging.Tournaments.{GoesFirst, first_alone, first_more, pick_by}
use Rattle.sst_merge.proofs.merge.first_anew.Goals as goal

pub loop-i-preserved : goal.loop-i-preserved
loop-i-preserved g c = record {
  inside = omega (arith, c.loop-i-test.true);
  first_inside = c.better-first.ensures.inside;
  goes = first_more g.T.Ranked.cmp g.T.Ranked.ordered c.args.heads.now c.loop-i.i c.loop-i.first c.better-first.result c.better-first.ensures.inside c.loop-i.invariant.first_inside c.loop-i-test.true c.loop-i.invariant.goes c.better-first.ensures;
}

pub returns : goal.returns
returns g c =
    let whole : c.loop-i.i ≡ length c.args.heads.now = omega (arith, c.loop-i-test.false, c.loop-i.invariant.inside) in
    pick_by g.T.Ranked.cmp g.T.Ranked.ordered c.args.heads.now c.loop-i.first c.loop-i.invariant.first_inside
    (subst (λ n. GoesFirst g.T.Ranked.cmp g.T.Ranked.ordered c.args.heads.now n c.loop-i.first) whole c.loop-i.invariant.goes)

pub loop-i-init : goal.loop-i-init
loop-i-init g c = record {
  inside = omega (arith, c.requires);
  first_inside = c.requires;
  goes = first_alone g.T.Ranked.cmp g.T.Ranked.ordered c.args.heads.now c.requires;
}
