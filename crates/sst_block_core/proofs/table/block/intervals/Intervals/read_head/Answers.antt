use Rattle.std.proofs.Common.{◌∙◌, ap, sym, arith, slice_get}
use Rattle.std.proofs.lemmas.Option.{same_Some}
use Rattle.sst_block_core.proofs.Heads.TablesAndLists.{table_head}
use Rattle.sst_block_core.proofs.Places.PlaceReads.{head_item, head_is_there}
use Rattle.sst_block_core.proofs.table.block.intervals.Intervals.read_head.Goals as goal

pub read_head-requires : goal.read_head-requires
read_head-requires g c =
    let s = rw (← c.self.view_is) at c.start-at.ensures.is_place in
    let p = rw (← c.self.view_is) at c.start-at.ensures.place in
    let h = rw (← c.self.view_is) at c.requires in
    head_is_there g.Item.BlockItem.kind _ c.self.invariant.0.listed.interval_some c.start-at.result (omega (arith, p, h)) s c.start-at.ensures.phase

pub returns-in-None-clause-head : goal.returns-in-None-clause-head
returns-in-None-clause-head g c = λ x there.
    let s = rw (← c.self.view_is) at c.start-at.ensures.is_place in
    let p = rw (← c.self.view_is) at c.start-at.ensures.place in
    let h = rw (← c.self.view_is) at c.requires in
    let item = head_item g.Item.BlockItem.kind _ c.self.invariant.0.listed.interval_some c.start-at.result (omega (arith, p, h)) s c.start-at.ensures.phase in
    let here = rw (← c.self.view_is) at there in
    let is = same_Some item.0 x (sym item.3 ∙ ap (slice_get _) p ∙ here) in
    let f = c.read_head.ensures.head item.0 item.1 item.2 in
    (f.0 ∙ ap g.Item.BlockItem.kind.key is, f.1 ∙ ap g.Item.BlockItem.kind.seqno is)

pub returns-in-Some-clause-head : goal.returns-in-Some-clause-head
returns-in-Some-clause-head g c = λ x there.
    let h = rw (← c.self.view_is) at c.requires in
    let here = rw (← c.self.view_is) at there in
    let tie = rw c.in-Some.is at c.self.invariant.1 in
    table_head g.Item.BlockItem.kind _ c.self.invariant.0.listed.interval_some c.in-Some.table.now tie c.args.j x here h c.head_of.result c.head_of.ensures.head
