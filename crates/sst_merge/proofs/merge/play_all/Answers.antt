use Rattle.std.proofs.Common.{◌*◌, ◌+◌, ◌-◌, ◌<◌, ◌≡◌, arith, subst}
use Rattle.sst_merge.specs.Tournament.{AreWinners}
use Rattle.sst_merge.proofs.Merging.Tournaments.{all_fresh, place_before, place_inside}
use Rattle.sst_merge.proofs.merge.play_all.Goals as goal

pub play-requires-clause-first : goal.play-requires-clause-first
play-requires-clause-first g c =
    place_inside g.T.Ranked.cmp g.T.Ranked.ordered c.args.heads.now c.loop-k.places (λ j. j < c.loop-k.k) c.loop-k.invariant.places (2 * (c.loop-k.k - 1)) (omega (arith, c.loop-k.invariant.inside, c.loop-k-test.true))

pub play-requires-clause-second : goal.play-requires-clause-second
play-requires-clause-second g c =
    place_inside g.T.Ranked.cmp g.T.Ranked.ordered c.args.heads.now c.loop-k.places (λ j. j < c.loop-k.k) c.loop-k.invariant.places (2 * (c.loop-k.k - 1) + 1) (omega (arith, c.loop-k.invariant.inside, c.loop-k-test.true))

pub loop-k-preserved : goal.loop-k-preserved
loop-k-preserved g c =
    let k = c.loop-k.k - 1 in
    let here : c.loop-k.k ≡ k + 1 = omega (arith, c.loop-k-test.true) in
    record {
      some = omega (arith, c.loop-k-test.true);
      inside = omega (arith, c.loop-k.invariant.inside);
      places = place_before g.T.Ranked.cmp g.T.Ranked.ordered c.args.heads.now c.loop-k.places k c.play.result
          (subst (λ n. AreWinners g.T.Ranked.cmp c.args.heads.now c.loop-k.places (λ j. j < n)) here c.loop-k.invariant.places)
          (omega (arith, c.loop-k-test.true)) (omega (arith, c.loop-k-test.true, c.loop-k.invariant.inside)) c.play.ensures;
    }

pub returns : goal.returns
returns g c = record {
  stale_inside = c.requires.some;
  places_are = all_fresh g.T.Ranked.cmp g.T.Ranked.ordered c.args.heads.now c.loop-k.places c.loop-k.k (omega (arith, c.loop-k-test.false)) c.loop-k.invariant.places;
}
