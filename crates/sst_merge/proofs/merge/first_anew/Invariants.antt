use Rattle.std.proofs.Common.{◌-◌, ◌<◌, ◌≤◌, length}
use Rattle.sst_merge.proofs.Merging.Tournaments.{GoesFirst}
use Rattle.sst_merge.proofs.merge.first_anew.Given as goal

abbrev pub invariant-loop-i : goal.invariant-loop-i
invariant-loop-i g l = record {
  inside : l.i ≤ length l.heads;
  first_inside : l.first < length l.heads;
  goes : GoesFirst g.T.Ranked.cmp g.T.Ranked.ordered l.heads l.i l.first;
}

abbrev pub decreases-loop-i : goal.decreases-loop-i
decreases-loop-i g l = length l.heads - l.i
