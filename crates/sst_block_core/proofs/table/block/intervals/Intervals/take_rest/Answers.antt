use Rattle.sst_block_core.proofs.Places.PlaceReads.{rest_is_there, took_rest, took_behind}
use Rattle.sst_block_core.proofs.table.block.intervals.Intervals.take_rest.Goals as goal

pub read_truncated-item-requires : goal.read_truncated-item-requires
read_truncated-item-requires g c =
    let s = rw (← c.self.view_is) at c.requires.place.is_place in
    let h = rw (← c.self.view_is) at c.requires.place.inside in
    rest_is_there g.Item.BlockItem.kind _ c.self.invariant.0.listed.interval_some c.args.at.now h s c.requires.rest

pub returns-clause-item : goal.returns-clause-item
returns-clause-item g c =
    let s = rw (← c.self.view_is) at c.requires.place.is_place in
    let h = rw (← c.self.view_is) at c.requires.place.inside in
    let read = c.read_truncated-item.ensures in
    let m = c.move_on.ensures in
    record {
      there = rw (← c.self.view_is) (took_rest g.Item.BlockItem.kind _ c.self.invariant.0.listed.interval_some c.args.at.now h _ c.move_on.new.self c.read_truncated-item.result.1
          m.place m.phase m.offset read.inside _ read.item c.requires.rest s);
      found = rw (← c.self.view_is) read.found;
    }

pub returns-clause-is_place : goal.returns-clause-is_place
returns-clause-is_place g c =
    let h = rw (← c.self.view_is) at c.requires.place.inside in
    let read = c.read_truncated-item.ensures in
    let m = c.move_on.ensures in
    rw (← c.self.view_is) (took_behind g.Item.BlockItem.kind _ c.self.invariant.0.listed.interval_some c.args.at.now h _ c.move_on.new.self c.read_truncated-item.result.1
    m.place m.phase m.offset read.inside _ read.item c.requires.rest m.base)
