use Rattle.std.proofs.Common.{◌<◌, ◌≤◌, length}
use Rattle.sst_merge.specs.Tournament.{AreWinners}
use Rattle.sst_merge.proofs.merge.play_all.Given as goal

abbrev pub invariant-loop-k : goal.invariant-loop-k
invariant-loop-k g l = record {
  some : 1 ≤ l.k;
  inside : l.k ≤ length l.heads;
  places : AreWinners g.T.Ranked.cmp l.heads l.places (λ j. j < l.k);
}

abbrev pub decreases-loop-k : goal.decreases-loop-k
decreases-loop-k g l = l.k
