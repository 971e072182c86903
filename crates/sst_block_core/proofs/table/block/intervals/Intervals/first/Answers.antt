use Rattle.sst_block_core.specs.Scan.{IsPlace}
use Rattle.sst_block_core.specs.Intervals.{IntervalsParts}
use Rattle.std.proofs.Common.{subst}
use Rattle.sst_block_core.proofs.Places.HeadPlaces.{first_is_place}
use Rattle.sst_block_core.proofs.table.block.intervals.Intervals.first.Goals as goal

pub returns-clause-is_place : goal.returns-clause-is_place
returns-clause-is_place g c =
    let P : IntervalsParts g.row.Item.Denot → Type 0 = λ i. IsPlace g.Item.BlockItem.kind i.list (record { index = 0; phase = 0; offset = 0; base = 0 }) in
    subst P c.self.view_is (first_is_place g.Item.BlockItem.kind _ c.self.inside.pointers c.self.inside.item_count c.self.invariant.0)
