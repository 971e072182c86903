use Rattle.std.proofs.Common.{◌∙◌, ◌+◌, ◌*◌, length, min, true, ap, sym, subst}
use Rattle.sst_block_core.specs.Scan.{Listed, IsPlace}
use Rattle.sst_block_core.specs.Window.{picked_head, found}
use Rattle.sst_block_core.proofs.Places.BackStacks.{is_back_interval}
use Rattle.sst_block_core.proofs.table.block.decoder.Decoder.seek_upper.Goals as goal

pub invariant_of-self : goal.invariant_of-self
invariant_of-self g c =
    let same = c.partition_point-passed.ensures.list in
    let P : Listed g.row.Item.Denot → Type 0 = λ l. IsPlace g.Item.BlockItem.kind l c.self.inside.ends.front in record {
      front = subst P (sym same) c.self.invariant.front;
      back = is_back_interval g.Item.BlockItem.kind c.partition_point-passed.new.self.list _ _ _ _ c.interval_end-end.ensures.value (ap length c.clear.ensures);
    }

pub returns-clause-step : goal.returns-clause-step
returns-clause-step g c = rw (← c.self.view_is) (λ p splits.
    let same = c.partition_point-passed.ensures.list in
    let list = c.self.inside.intervals.list in
    let value = rw same at c.interval_end-end.ensures.value in
    let count = rw same at c.count-count.ensures.value in
    let point = c.partition_point-passed.ensures.point p splits in
    let picked = c.picked_head.ensures ∙ (λ i. picked_head c.args.second_partition (point i) (count i)) in
    let hi = value ∙ ap (λ k. min (length list.items) ((k + 1) * list.interval)) picked in
    (λ i. (record { list = (same i).items; lo = c.self.inside.ends.front.index; hi = hi i }, found true)))
