use Rattle.std.proofs.Common.{◌≡◌, ◌-◌, ◌≤◌, length, drop}
use Rattle.sst_tool.specs.Frames.{follow_from}
use Rattle.sst_tool.proofs.tidy.first_astray.Given as goal

abbrev pub decreases-loop-number : goal.decreases-loop-number
decreases-loop-number l = length l.index.items - l.number

abbrev pub invariant-loop-number : goal.invariant-loop-number
invariant-loop-number l = record {
  inside : l.number ≤ length l.index.items;
  follow : follow_from 0 l.index.items ≡ follow_from l.end (drop l.number l.index.items);
}
