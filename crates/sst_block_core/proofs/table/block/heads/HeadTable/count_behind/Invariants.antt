use Rattle.std.proofs.Common.{◌≡◌, ◌+◌, ◌≤◌, length}
use Rattle.sst_block_core.specs.Intervals.{digits}
use Rattle.sst_block_core.specs.Heads.{heads_before}
use Rattle.sst_block_core.proofs.table.block.heads.HeadTable.count_behind.Given as goal

abbrev pub invariant-loop-size : goal.invariant-loop-size
invariant-loop-size l = record {
  inside : l.base + l.size ≤ length l.self.heads;
  low : l.base ≤ heads_before l.payload l.bound.needle.now l.bound.from l.self.heads;
  high : heads_before l.payload l.bound.needle.now l.bound.from l.self.heads ≤ l.base + l.size;
  looked : l.steps.heads + digits l.size ≡ l.fn.steps.heads + digits (length l.self.heads);
  entries : l.steps.entries ≡ l.fn.steps.entries;
}

abbrev pub decreases-loop-size : goal.decreases-loop-size
decreases-loop-size l = l.size
