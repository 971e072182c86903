use Rattle.std.proofs.Common.{◌-◌, List, length, arith, ap}
use Rattle.sstable_blocks.specs.Prelude.{Handle}
use Rattle.sst_calls.specs.Windows.{blocks_in}
use Rattle.sst_calls.proofs.Lists.BlockWindows.{all_before}
use Rattle.sst_calls.proofs.Lists.RunBlockLists.{blocks_count}
use Rattle.sst_calls.proofs.run_range.end_of.Goals as goal

pub returns-clause-all : goal.returns-clause-all
returns-clause-all c =
    let bytes = c.args.bytes.now in
    let h = c.args.handles.now in
    let count = ap (λ (xs : List Handle). length xs) c.index_of.ensures.items in
    let all = all_before (blocks_in bytes h) (c.len-block.result - 1) c.block_at.result.block.items c.block_at.ensures.items (omega (arith, count, c.len-block.ensures.count, c.len-block.ensures.some, blocks_count bytes h)) in
    omega (arith, all, c.len.ensures.count)
