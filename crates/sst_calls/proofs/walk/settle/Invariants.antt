use Rattle.std.proofs.Common.{◌≡◌, ◌-◌, ℕ}
use Rattle.sst_calls.specs.Walks.{IsAtWindow, walk_left}
use Rattle.sst_calls.proofs.walk.settle.Given as goal

abbrev pub invariant-loop-walk : goal.invariant-loop-walk
invariant-loop-walk l = record {
  there : IsAtWindow l.walk;
  left : (run : ℕ) → walk_left run l.walk ≡ walk_left run l.fn.walk;
}

abbrev pub decreases-loop-walk : goal.decreases-loop-walk
decreases-loop-walk l = l.walk.window.end_block - l.walk.window.first_block
