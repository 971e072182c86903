use Rattle.std.proofs.Common.{◌≡◌, ◌∙◌, ◌+◌, ap, sym, subst, slice_get, arith}
use Rattle.sst_block_core.specs.Heads.{IsNextHead, IsHeadTableUpto}
use Rattle.sst_block_core.specs.Intervals.{IntervalsParts}
use Rattle.sst_block_core.proofs.Search.Cuts.{some_some}
use Rattle.sst_block_core.proofs.Places.PlaceReads.{head_item, head_is_there}
use Rattle.sst_block_core.proofs.Heads.TableSteps.{next_behind, upto_more}
use Rattle.sst_block_core.proofs.table.block.intervals.Intervals.push_head.Goals as goal

pub push_head-requires-clause-head : goal.push_head-requires-clause-head
push_head-requires-clause-head g c =
    let s = rw (← c.self.view_is) at c.start-at.ensures.is_place in
    let p = rw (← c.self.view_is) at c.start-at.ensures.place in
    let h = rw (← c.self.view_is) at c.requires.inside in
    head_is_there g.Item.BlockItem.kind _ c.self.invariant.0.listed.interval_some c.start-at.result (omega (arith, p, h)) s c.start-at.ensures.phase

pub push_head-requires-clause-next : goal.push_head-requires-clause-next
push_head-requires-clause-next g c = λ x rest full.
    let kind = g.Item.BlockItem.kind in
    let pos = c.self.invariant.0.listed.interval_some in
    let s = rw (← c.self.view_is) at c.start-at.ensures.is_place in
    let p = rw (← c.self.view_is) at c.start-at.ensures.place in
    let h = rw (← c.self.view_is) at c.requires.inside in
    let item = head_item kind _ pos c.start-at.result (omega (arith, p, h)) s c.start-at.ensures.phase in
    let there = ap (slice_get _) (sym p) ∙ item.3 in
    let begins = rw (← c.self.view_is) at c.requires.begins in
    let ordered = rw (← c.self.view_is) at c.requires.ordered in
    let upto = rw (← c.self.view_is) at c.requires.table in
    let same : item.0 ≡ x = ap (λ q. q.0) (some_some (sym item.2 ∙ full)) in
    subst (IsNextHead kind c.self.inside.forms.payload c.args.table.now) same
    (record { begins = begins c.args.j item.0 there; order = next_behind kind _ pos ordered c.args.j c.args.table.now upto item.0 there h })

pub returns-clause-table : goal.returns-clause-table
returns-clause-table g c =
    let kind = g.Item.BlockItem.kind in
    let pos = c.self.invariant.0.listed.interval_some in
    let s = rw (← c.self.view_is) at c.start-at.ensures.is_place in
    let p = rw (← c.self.view_is) at c.start-at.ensures.place in
    let o = rw (← c.self.view_is) at c.start-at.ensures.offset in
    let h = rw (← c.self.view_is) at c.requires.inside in
    let item = head_item kind _ pos c.start-at.result (omega (arith, p, h)) s c.start-at.ensures.phase in
    let there = ap (slice_get _) (sym p) ∙ item.3 in
    let ordered = rw (← c.self.view_is) at c.requires.ordered in
    let upto = rw (← c.self.view_is) at c.requires.table in
    let pushed = c.push_head.ensures.pushed item.0 item.1 item.2 in
    let P : IntervalsParts g.row.Item.Denot → Type 0 = λ i. IsHeadTableUpto kind i.list (c.args.j + 1) c.push_head.new.table in
    subst P c.self.view_is (upto_more kind _ pos ordered c.args.j c.args.table.now upto item.0 there h pushed.0 c.push_head.new.table pushed.1 c.push_head.ensures.table (record { key = pushed.2; seqno = pushed.3; offset = pushed.4 ∙ o }))
