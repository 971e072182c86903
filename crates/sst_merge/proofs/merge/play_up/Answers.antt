use Rattle.std.proofs.Common.{◌≡◌, ◌*◌, ◌+◌, arith, subst}
use Rattle.sst_merge.specs.Tournament.{AreWinners, IsOnWay}
use Rattle.sst_merge.proofs.Merging.Tournaments.{place_above, place_inside, root_is_pick}
use Rattle.sst_merge.proofs.merge.play_up.Goals as goal

pub play-requires-clause-first : goal.play-requires-clause-first
play-requires-clause-first g c =
    place_inside g.T.Ranked.cmp g.T.Ranked.ordered c.args.heads.now c.loop-k.places (λ j. IsOnWay j c.loop-k.k) c.loop-k.invariant.places (2 * c.loop-k.k) (omega (arith, c.loop-k.invariant.inside))

pub play-requires-clause-second : goal.play-requires-clause-second
play-requires-clause-second g c =
    place_inside g.T.Ranked.cmp g.T.Ranked.ordered c.args.heads.now c.loop-k.places (λ j. IsOnWay j c.loop-k.k) c.loop-k.invariant.places (2 * c.loop-k.k + 1) (omega (arith, c.loop-k.invariant.inside))

pub loop-k-preserved : goal.loop-k-preserved
loop-k-preserved g c = record {
  inside = omega (arith, c.loop-k.invariant.inside);
  places = place_above g.T.Ranked.cmp g.T.Ranked.ordered c.args.heads.now c.loop-k.places c.loop-k.k c.play.result c.loop-k.invariant.places (omega (arith, c.loop-k-test.true)) c.loop-k.invariant.inside c.play.ensures;
}

pub returns-clause-kept : goal.returns-clause-kept
returns-clause-kept g c =
    let none : c.loop-k.k ≡ 0 = omega (arith, c.loop-k-test.false) in
    record {
      stale_inside = omega (arith, c.loop-k.invariant.inside);
      places_are = subst (λ n. AreWinners g.T.Ranked.cmp c.args.heads.now c.loop-k.places (λ j. IsOnWay j n)) none c.loop-k.invariant.places;
    }

pub returns-clause-first : goal.returns-clause-first
returns-clause-first g c =
    let none : c.loop-k.k ≡ 0 = omega (arith, c.loop-k-test.false) in
    root_is_pick g.T.Ranked.cmp g.T.Ranked.ordered c.args.heads.now c.loop-k.places
    (subst (λ n. AreWinners g.T.Ranked.cmp c.args.heads.now c.loop-k.places (λ j. IsOnWay j n)) none c.loop-k.invariant.places)
    (omega (arith, c.loop-k.invariant.inside))
