use Rattle.std.proofs.Common.{◌≡◌, ◌+◌, ◌-◌, ◌*◌, ◌/◌, ◌<◌, ◌≤◌, length, arith}
use Rattle.sst_block_core.specs.Body.{place_offset}
use Rattle.sst_block_core.proofs.Search.HeadAnswers.{times_upto}
use Rattle.sst_block_core.specs.OffsetLaws.{head_upto, head_behind}
use Rattle.sst_block_core.proofs.table.block.intervals.Intervals.place_at.Goals as goal

pub loop-right-preserved-then-start-offset : goal.loop-right-preserved-then-start-offset
loop-right-preserved-then-start-offset g c =
    let i = c.loop-right.invariant in
    let r = c.args.self.now.list.interval in
    let mid = c.loop-right.left + (c.loop-right.right - c.loop-right.left) / 2 in
    let up : mid * r ≤ (c.loop-right.right - 1) * r = times_upto mid (c.loop-right.right - 1) r (omega arith) in
    let known : mid * r < length c.args.self.now.list.items = omega (arith, up, i.inside) in
    let o : c.start.result.offset ≡ place_offset g.Item.BlockItem.kind r c.args.self.now.list.items (mid * r) = c.start.ensures.offset in
    record {
      order = omega arith;
      inside = i.inside;
      between = λ j h e.
          let le : place_offset g.Item.BlockItem.kind r c.args.self.now.list.items (mid * r) ≤ place_offset g.Item.BlockItem.kind r c.args.self.now.list.items (j * r) = omega (arith, o, e, c.if-start-offset.true) in
          (head_upto g.Item.BlockItem.kind r c.count-right.ensures.listed.interval_some g.Item.BlockItem.valid g.Item.BlockItem.is_kind c.args.self.now.list.items mid j known h le, (i.between j h e).1);
    }

pub loop-right-preserved : goal.loop-right-preserved
loop-right-preserved g c =
    let i = c.loop-right.invariant in
    let r = c.args.self.now.list.interval in
    let mid = c.loop-right.left + (c.loop-right.right - c.loop-right.left) / 2 in
    let up : mid * r ≤ (c.loop-right.right - 1) * r = times_upto mid (c.loop-right.right - 1) r (omega arith) in
    let low : (mid - 1) * r ≤ mid * r = times_upto (mid - 1) mid r (omega arith) in
    let known : mid * r < length c.args.self.now.list.items = omega (arith, up, i.inside) in
    let o : c.start.result.offset ≡ place_offset g.Item.BlockItem.kind r c.args.self.now.list.items (mid * r) = c.start.ensures.offset in
    record {
      order = omega arith;
      inside = omega (arith, low, known);
      between = λ j h e.
          let lt : place_offset g.Item.BlockItem.kind r c.args.self.now.list.items (j * r) < place_offset g.Item.BlockItem.kind r c.args.self.now.list.items (mid * r) = omega (arith, o, e, c.if-start-offset.false) in
          ((i.between j h e).0, head_behind g.Item.BlockItem.kind r c.count-right.ensures.listed.interval_some g.Item.BlockItem.valid g.Item.BlockItem.is_kind c.args.self.now.list.items mid j known h lt);
    }
