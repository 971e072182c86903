use Rattle.std.proofs.Common.{◌∙◌}
use Rattle.sst_block_core.proofs.Places.PlaceReads.{head_is_there, took_head}
use Rattle.sst_block_core.proofs.table.block.intervals.Intervals.take_head.Goals as goal

pub read_full-item-requires : goal.read_full-item-requires
read_full-item-requires g c =
    let s = rw (← c.self.view_is) at c.requires.place.is_place in
    let h = rw (← c.self.view_is) at c.requires.place.inside in
    head_is_there g.Item.BlockItem.kind _ c.self.invariant.0.listed.interval_some c.args.at.now h s c.requires.head

pub returns-clause-item : goal.returns-clause-item
returns-clause-item g c =
    let s = rw (← c.self.view_is) at c.requires.place.is_place in
    let h = rw (← c.self.view_is) at c.requires.place.inside in
    let read = c.read_full-item.ensures in
    let m = c.move_on.ensures in
    record {
      there = rw (← c.self.view_is) ((took_head g.Item.BlockItem.kind _ c.self.invariant.0.listed.interval_some c.args.at.now h _ c.move_on.new.self c.read_full-item.result.1
          m.place m.phase m.offset read.exact.0 _ (m.base ∙ c.key_offset-at.ensures) s c.requires.head read.exact.1 read.key).0);
      found = rw (← c.self.view_is) read.found;
    }

pub returns-clause-is_place : goal.returns-clause-is_place
returns-clause-is_place g c =
    let s = rw (← c.self.view_is) at c.requires.place.is_place in
    let h = rw (← c.self.view_is) at c.requires.place.inside in
    let read = c.read_full-item.ensures in
    let m = c.move_on.ensures in
    rw (← c.self.view_is) ((took_head g.Item.BlockItem.kind _ c.self.invariant.0.listed.interval_some c.args.at.now h _ c.move_on.new.self c.read_full-item.result.1
    m.place m.phase m.offset read.exact.0 _ (m.base ∙ c.key_offset-at.ensures) s c.requires.head read.exact.1 read.key).1)
