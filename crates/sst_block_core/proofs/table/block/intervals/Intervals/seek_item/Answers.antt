use Rattle.sst_block_core.proofs.Search.Cuts.{count_inside}
use Rattle.sst_block_core.proofs.Search.Scans.{stop_place}
use Rattle.sst_block_core.proofs.table.block.intervals.Intervals.seek_item.Goals as goal

pub returns-then-first-interval_end-clause-place : goal.returns-then-first-interval_end-clause-place
returns-then-first-interval_end-clause-place g c =
    let high = c.heads_passed-heads.ensures.high in
    let inside = count_inside g.Item.BlockItem.kind c.args.bound.now.needle.now c.args.bound.now.from c.args.self.now.list.items c.requires in
    let p = rw c.heads_passed-heads.ensures.list at c.seek_in_interval-candidate.ensures.place in
    stop_place _ _ c.heads_passed-heads.result _ _ c.if-heads-gt0.true p high inside
