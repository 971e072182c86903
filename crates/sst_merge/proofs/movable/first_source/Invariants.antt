use Rattle.std.proofs.Common.{◌≡◌, true, length, map, ◌-◌, ◌<◌, ◌≤◌}
use Rattle.sst_merge.specs.Movable.{IsFrontAmong}
use Rattle.sst_merge.specs.Moved.{are_known, windows}
use Rattle.sst_merge.proofs.movable.first_source.Given as goal

abbrev pub invariant-loop-i : goal.invariant-loop-i
invariant-loop-i g l = record {
  inside : l.i ≤ length l.sources;
  place : l.first < length l.sources;
  first : are_known (map g.I.Movable.moved l.sources) ≡ true → IsFrontAmong g.T.Ranked.cmp (windows (map g.I.Movable.moved l.sources)) l.i l.first;
}

abbrev pub decreases-loop-i : goal.decreases-loop-i
decreases-loop-i g l = length l.sources - l.i
