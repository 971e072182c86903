use Rattle.std.proofs.Common.{◌∙◌, ◌%◌, ℕ, ap}
use Rattle.sst_block_core.specs.Intervals.{IntervalsParts}
use Rattle.sst_block_core.proofs.Places.HeadPlaces.{last_is_place}
use Rattle.sst_block_core.proofs.table.block.intervals.Intervals.end.Goals as goal

pub returns-clause-is_place : goal.returns-clause-is_place
returns-clause-is_place g c =
    last_is_place g.Item.BlockItem.kind c.args.self.now.list _ _ c.item_count-index.ensures.value
    (ap (λ (n : ℕ). c.item_count-index.result % n) (c.from.ensures ∙ ap (λ (i : IntervalsParts g.row.Item.Denot). i.list.interval) c.self.view_is))
