use Rattle.std.proofs.Common.{◌≡◌, arith, subst}
use Rattle.sst_merge.specs.Tournament.{AreWinners, IsOnWay}
use Rattle.sst_merge.proofs.Merging.Tournaments.{root_is_pick}
use Rattle.sst_merge.proofs.merge.first_now.Goals as goal

pub returns : goal.returns
returns g c =
    let none : c.args.stale ≡ 0 = omega arith in
    let there = c.requires.places (omega arith) in
    root_is_pick g.T.Ranked.cmp g.T.Ranked.ordered c.args.heads.now c.args.places.now (subst (λ n. AreWinners g.T.Ranked.cmp c.args.heads.now c.args.places.now (λ j. IsOnWay j n)) none there.places_are) c.requires.some
