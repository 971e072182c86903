use Rattle.std.proofs.Common.{◌≡◌, length, refl, arith}
use Rattle.sst_block_core.proofs.Places.BackStacks.{back_cost_ends, zero_from_test}
use Rattle.sst_block_core.proofs.table.block.intervals.Intervals.load.Goals as goal

pub returns-then-is_empty-clause-counts : goal.returns-then-is_empty-clause-counts
returns-then-is_empty-clause-counts g c =
    let none : length c.args.back.now.stack.items ≡ 0 = zero_from_test _ _ c.if-is_empty.ensures refl in
    let cost = back_cost_ends c.args.self.now.list.interval (length c.args.self.now.list.items) c.args.back.now.hi (c.requires.back.ends none) in
    let s = c.set_back.ensures.counts in
    record {
      heads_least = omega (arith, s.heads);
      heads_most = omega (arith, s.heads);
      entries_least = omega (arith, s.entries);
      entries_most = omega (arith, cost, s.entries);
    }
