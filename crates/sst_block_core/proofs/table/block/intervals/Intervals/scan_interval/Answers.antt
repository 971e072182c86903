use Rattle.std.proofs.Common.{◌∙◌, ap, sym, refl, drop, arith}
use Rattle.sst_block_core.proofs.Search.Scans.{alike_inside, order_is, stops_here, goes_on}
use Rattle.sst_block_core.proofs.table.block.intervals.Intervals.scan_interval.Goals as goal

pub loop-at-init : goal.loop-at-init
loop-at-init g c = record {
  same = refl;
  entered = c.requires.entered;
  onwards = omega arith;
  heads = refl;
  entries = refl;
}

pub compare_behind-order-requires : goal.compare_behind-order-requires
compare_behind-order-requires g c =
    alike_inside g.Item.BlockItem.kind c.args.bound.now.needle.now c.args.bound.now.from c.args.self.now.list c.args.from c.args.alike c.args.end c.requires.entered

pub returns-then-not-passes_order-clause-place : goal.returns-then-not-passes_order-clause-place
returns-then-not-passes_order-clause-place g c =
    let i = c.loop-at.invariant in
    let e = i.entered in
    let kind = g.Item.BlockItem.kind in
    let took = c.take_rest-item.ensures in
    let there = rw i.same at took.item.there in
    let behind = (rw i.same at took.is_place) (kind.key e.head) e.is_place in
    let shared = c.prefix_len-shared.ensures ∙ behind.1 in
    let rest = c.own_key.ensures ∙ (λ k. drop (sym c.prefix_len-shared.ensures k) (kind.key (g.Parsed.ParsedItem.item_of ((ap (λ l. l.payload) (took.list ∙ i.same)) k) c.take_rest-item.result))) in
    stops_here kind c.args.bound.now.needle.now c.args.bound.now.from c.args.self.now.list c.loop-at.at c.args.alike c.args.end e c.requires.ordered _ there
    c.prefix_len-shared.result c.own_key.result.now shared rest c.compare_behind-order.result c.compare_behind-order.ensures
    c.seqno.result (c.seqno.ensures c.args.self.now.list.payload) c.loop-at-test.true (sym c.passes_order.ensures ∙ c.if-not-passes_order.true)

pub returns-then-not-passes_order-clause-candidate : goal.returns-then-not-passes_order-clause-candidate
returns-then-not-passes_order-clause-candidate g c =
    let i = c.loop-at.invariant in
    let e = i.entered in
    let kind = g.Item.BlockItem.kind in
    let took = c.take_rest-item.ensures in
    let there = rw i.same at took.item.there in
    let behind = (rw i.same at took.is_place) (kind.key e.head) e.is_place in
    let shared = c.prefix_len-shared.ensures ∙ behind.1 in
    let rest = c.own_key.ensures ∙ (λ k. drop (sym c.prefix_len-shared.ensures k) (kind.key (g.Parsed.ParsedItem.item_of ((ap (λ l. l.payload) (took.list ∙ i.same)) k) c.take_rest-item.result))) in
    let same = order_is kind c.args.bound.now.needle.now c.args.bound.now.from c.args.self.now.list c.loop-at.at c.args.alike c.args.end e c.requires.ordered _ there
    c.prefix_len-shared.result c.own_key.result.now shared rest c.compare_behind-order.result c.compare_behind-order.ensures in
    (record { held = record { there = there; found = rw i.same at took.item.found; next = took.place; is_place = record { head = kind.key e.head; is_place = behind.0 } }; order_is = same }, c.loop-at-test.true)

pub loop-at-preserved : goal.loop-at-preserved
loop-at-preserved g c =
    let i = c.loop-at.invariant in
    let e = i.entered in
    let kind = g.Item.BlockItem.kind in
    let took = c.take_rest-item.ensures in
    let there = rw i.same at took.item.there in
    let behind = (rw i.same at took.is_place) (kind.key e.head) e.is_place in
    let shared = c.prefix_len-shared.ensures ∙ behind.1 in
    let rest = c.own_key.ensures ∙ (λ k. drop (sym c.prefix_len-shared.ensures k) (kind.key (g.Parsed.ParsedItem.item_of ((ap (λ l. l.payload) (took.list ∙ i.same)) k) c.take_rest-item.result))) in
    let k = took.counts.entries in
    let n = i.entries in
    let p = took.place in
    record {
      same = took.list ∙ i.same;
      entered = goes_on kind c.args.bound.now.needle.now c.args.bound.now.from c.args.self.now.list c.loop-at.at c.args.alike c.args.end e c.requires.ordered _ there
          c.prefix_len-shared.result c.own_key.result.now shared rest c.compare_behind-order.result c.compare_behind-order.ensures
          c.seqno.result (c.seqno.ensures c.args.self.now.list.payload) c.take_rest-item.new.at c.loop-at-test.true (sym c.passes_order.ensures ∙ c.if-not-passes_order.false) took.place behind.0;
      onwards = let o = i.onwards in omega (arith, o, p);
      heads = omega (arith, took.counts.heads, i.heads);
      entries = omega (arith, k, n, p);
    }
