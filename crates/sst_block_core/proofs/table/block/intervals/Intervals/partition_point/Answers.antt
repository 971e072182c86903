use Rattle.std.proofs.Common.{◌≡◌, ◌+◌, ◌-◌, ◌*◌, ◌/◌, ◌<◌, ◌≤◌, length, true, false, ◌∙◌, arith}
use Rattle.sst_block_core.proofs.Search.Halves.{digits_step}
use Rattle.sst_block_core.proofs.Search.HeadAnswers.{times_upto, answered_head, some_heads}
use Rattle.sst_block_core.proofs.table.block.intervals.Intervals.partition_point.Goals as goal

pub loop-left-preserved-then-pred : goal.loop-left-preserved-then-pred
loop-left-preserved-then-pred g c =
    let i = c.loop-left.invariant in
    let r = c.args.self.now.list.interval in
    let items = c.args.self.now.list.items in
    let mid = c.loop-left.left + (c.loop-left.right - c.loop-left.left) / 2 in
    let up : mid * r ≤ (c.loop-left.right - 1) * r = times_upto mid (c.loop-left.right - 1) r (omega arith) in
    let inside : mid * r < length items = omega (arith, up, i.inside) in
    let step = digits_step (c.loop-left.right - (mid + 1)) (c.loop-left.right - c.loop-left.left) (omega arith) (omega arith) in
    let head = rw i.same at c.read_head-seqno.ensures.head in
    record {
      same = c.read_head-seqno.ensures.list ∙ i.same;
      order = omega arith;
      upto = i.upto;
      inside = i.inside;
      before = λ h. let e : (mid + 1) - 1 ≡ mid = omega arith in rw e (answered_head g.Item.BlockItem.kind _ r items mid true inside c.read_head-seqno.result head c.if-pred.ensures);
      after = i.after;
      heads = omega (arith, step, i.heads, c.read_head-seqno.ensures.counts.heads);
      grows = omega (arith, i.grows, c.read_head-seqno.ensures.counts.heads);
      looked = λ _. omega (arith, i.grows, c.read_head-seqno.ensures.counts.heads);
      entries = omega (arith, i.entries, c.read_head-seqno.ensures.counts.entries);
    }

pub loop-left-preserved : goal.loop-left-preserved
loop-left-preserved g c =
    let i = c.loop-left.invariant in
    let r = c.args.self.now.list.interval in
    let items = c.args.self.now.list.items in
    let mid = c.loop-left.left + (c.loop-left.right - c.loop-left.left) / 2 in
    let up : mid * r ≤ (c.loop-left.right - 1) * r = times_upto mid (c.loop-left.right - 1) r (omega arith) in
    let low : (mid - 1) * r ≤ mid * r = times_upto (mid - 1) mid r (omega arith) in
    let inside : mid * r < length items = omega (arith, up, i.inside) in
    let step = digits_step (mid - c.loop-left.left) (c.loop-left.right - c.loop-left.left) (omega arith) (omega arith) in
    let head = rw i.same at c.read_head-seqno.ensures.head in
    record {
      same = c.read_head-seqno.ensures.list ∙ i.same;
      order = omega arith;
      upto = omega (arith, i.upto);
      inside = omega (arith, low, inside);
      before = i.before;
      after = λ h. answered_head g.Item.BlockItem.kind _ r items mid false inside c.read_head-seqno.result head c.if-pred.ensures;
      heads = omega (arith, step, i.heads, c.read_head-seqno.ensures.counts.heads);
      grows = omega (arith, i.grows, c.read_head-seqno.ensures.counts.heads);
      looked = λ _. omega (arith, i.grows, c.read_head-seqno.ensures.counts.heads);
      entries = omega (arith, i.entries, c.read_head-seqno.ensures.counts.entries);
    }

pub returns-clause-counts : goal.returns-clause-counts
returns-clause-counts g c =
    let i = c.loop-left.invariant in
    let n = length c.args.self.now.list.items in
    let some : 0 < n = omega (arith, c.count-right.ensures.below) in
    let heads = some_heads n c.count-right.result c.args.self.now.list.interval some c.count-right.ensures.all in
    let looked = i.looked (omega (arith, heads, c.count-right.ensures.value)) in
    record {
      heads_least = omega (arith, looked);
      heads_most = omega (arith, i.heads);
      entries_least = omega (arith, i.entries);
      entries_most = omega (arith, i.entries);
    }
