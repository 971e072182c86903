use Rattle.std.proofs.Common.{◌+◌, ◌≤◌, length, arith}
use Rattle.sst_calls.specs.Windows.{blocks_in}
use Rattle.sst_calls.proofs.Lists.RunBlockLists.{place_inside}
use Rattle.sst_calls.proofs.Lists.Walks.{next_is, next_left}
use Rattle.sst_calls.proofs.walk.next_block.Goals as goal

pub block_at-walk-requires-clause-inside : goal.block_at-walk-requires-clause-inside
block_at-walk-requires-clause-inside c =
    let w = c.args.walk.now in
    let there = c.requires.there in
    let whole : length w.part.block.items ≤ w.window.first_index = omega (arith, there.len_is, c.requires.end) in
    place_inside w.bytes.now w.handles (w.window.first_block + 1) 0 (next_is (blocks_in w.bytes.now w.handles) w.window w.part.block.items there.window there.block whole c.requires.more).first

pub returns-clause-left : goal.returns-clause-left
returns-clause-left c =
    let w = c.args.walk.now in
    let there = c.requires.there in
    let whole : length w.part.block.items ≤ w.window.first_index = omega (arith, there.len_is, c.requires.end) in
    λ run. next_left (blocks_in w.bytes.now w.handles) w.window w.part.block.items there.window there.block whole c.requires.more run w.bytes.now
