use Rattle.std.proofs.Common.{◌≡◌, ◌∙◌, ◌-◌, ◌*◌, slice_get, ap, sym, subst, arith}
use Rattle.sst_block_core.specs.Heads.{HeadsBegin}
use Rattle.sst_block_core.specs.Found.{range_bytes}
use Rattle.sst_block_core.specs.Intervals.{IntervalsParts}
use Rattle.sst_block_core.specs.Scan.{Listed}
use Rattle.sst_block_core.specs.Stages.{items_in}
use Rattle.sst_block_core.proofs.Places.PlaceReads.{head_item, head_is_there}
use Rattle.sst_block_core.proofs.Heads.TableSteps.{all_begin}
use Rattle.sst_block_core.proofs.table.block.intervals.Intervals.shared_prefix.Goals as goal

pub shared_prefix-requires-clause-first : goal.shared_prefix-requires-clause-first
shared_prefix-requires-clause-first g c =
    let listed = c.self.invariant.0.listed in
    let s = rw (← c.self.view_is) at c.start-first.ensures.is_place in
    let p = rw (← c.self.view_is) at c.start-first.ensures.place in
    let some = listed.some in
    head_is_there g.Item.BlockItem.kind _ listed.interval_some c.start-first.result (omega (arith, p, some)) s c.start-first.ensures.phase

pub shared_prefix-requires-clause-last : goal.shared_prefix-requires-clause-last
shared_prefix-requires-clause-last g c =
    let listed = c.self.invariant.0.listed in
    let s = rw (← c.self.view_is) at c.start-last.ensures.is_place in
    let p = rw (← c.self.view_is) at c.start-last.ensures.place in
    let below = rw (← c.self.view_is) at c.count-count.ensures.below in
    head_is_there g.Item.BlockItem.kind _ listed.interval_some c.start-last.result (omega (arith, p, below)) s c.start-last.ensures.phase

pub returns-clause-begins : goal.returns-clause-begins
returns-clause-begins g c =
    let kind = g.Item.BlockItem.kind in
    let list : Listed g.row.Item.Denot = record { payload = c.self.inside.forms.payload; interval = c.self.inside.restart_interval; items = items_in kind c.self.inside.forms.payload } in
    let listed = c.self.invariant.0.listed in
    let some = listed.some in
    let s = rw (← c.self.view_is) at c.start-first.ensures.is_place in
    let p = rw (← c.self.view_is) at c.start-first.ensures.place in
    let t = rw (← c.self.view_is) at c.start-last.ensures.is_place in
    let q = rw (← c.self.view_is) at c.start-last.ensures.place in
    let below = rw (← c.self.view_is) at c.count-count.ensures.below in
    let value = rw (← c.self.view_is) at c.count-count.ensures.value in
    let ordered = rw (← c.self.view_is) at c.requires in
    let first = head_item kind list listed.interval_some c.start-first.result (omega (arith, p, some)) s c.start-first.ensures.phase in
    let last = head_item kind list listed.interval_some c.start-last.result (omega (arith, q, below)) t c.start-last.ensures.phase in
    let zero : c.start-first.result.index ≡ 0 = omega (arith, p) in
    let at_first = ap (slice_get list.items) (sym zero) ∙ first.3 in
    let at_last = ap (slice_get list.items) (ap (λ n. (n - 1) * c.self.inside.restart_interval) (sym value) ∙ sym q) ∙ last.3 in
    let P : IntervalsParts g.row.Item.Denot → Type 0 = λ i. HeadsBegin kind i.list (range_bytes i.list.payload c.shared_prefix.result) in
    subst P c.self.view_is (all_begin kind list listed.interval_some some ordered (range_bytes list.payload c.shared_prefix.result) first.0 last.0 at_first at_last (c.shared_prefix.ensures.first first.0 first.1 first.2) (c.shared_prefix.ensures.last last.0 last.1 last.2))
