use Rattle.std.proofs.Common.{◌≡◌, true, length, map, ◌-◌, ◌<◌, ◌≤◌}
use Rattle.sst_merge.specs.Movable.{IsBackAmong}
use Rattle.sst_merge.specs.Moved.{are_known, windows}
use Rattle.sst_merge.proofs.movable.last_source.Given as goal

abbrev pub invariant-loop-i : goal.invariant-loop-i
invariant-loop-i g l = record {
  inside : l.i ≤ length l.sources;
  place : l.last < length l.sources;
  last : are_known (map g.I.Movable.moved l.sources) ≡ true → IsBackAmong g.T.Ranked.cmp (windows (map g.I.Movable.moved l.sources)) l.i l.last;
}

abbrev pub decreases-loop-i : goal.decreases-loop-i
decreases-loop-i g l = length l.sources - l.i
