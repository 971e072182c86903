use Rattle.std.proofs.Common.{◌≡◌, ◌+◌, ◌-◌, ◌*◌, ◌/◌, ◌%◌, ◌<◌, ◌≤◌, length, ap, sym, refl, ◌∙◌, arith}
use Rattle.std.proofs.Math.Nat.{mul-mod_left}
use Rattle.std.proofs.lemmas.List.{length_push}
use Rattle.sst_block_core.specs.declared.table.block.place.Place.{Place}
use Rattle.sst_block_core.specs.BackLaws.{first_of_is, first_below, first_near}
use Rattle.sst_block_core.proofs.Places.BackStacks.{mod_in_interval, any_base, stack_push}
use Rattle.sst_block_core.proofs.table.block.intervals.Intervals.fill.Goals as goal

pub loop-at-init : goal.loop-at-init
loop-at-init g c =
    let kind = g.Item.BlockItem.kind in
    let list = c.args.self.now.list in
    let s = c.start-at.ensures in
    let t = c.take_head-head.ensures in
    let same : c.from.result ≡ list.interval = c.from.ensures ∙ c.interval.ensures.value in
    let below : (c.args.end - 1) / c.from.result * list.interval < c.args.end = rw same (first_below list.interval c.args.end c.requires.some) in
    let at : Place = record { index = c.start-at.result.index; phase = 0; offset = c.start-at.result.offset; base = c.take_head-head.new.at.base } in
    let none : length c.args.stack.now.items ≡ 0 = ap length c.requires.empty in
    let l = ap length c.push.ensures.items ∙ length_push c.args.stack.now.items c.start-at.result.offset in
    record {
      same = t.list;
      is_place = record { head = _; is_place = t.is_place };
      upto = omega (arith, t.place, s.place, below);
      some = omega (arith, l);
      count = omega (arith, l, none, t.place, s.place);
      places = rw c.push.ensures.items (stack_push kind list c.args.stack.now.items c.take_head-head.new.at.base ((c.args.end - 1) / c.from.result * list.interval) at
          (λ k h. absurd (omega (arith, none, h))) (omega (arith, none, s.place)) (omega (arith, none)) refl (any_base kind list c.start-at.result at refl refl refl s.phase s.is_place));
      entries = omega (arith, t.counts.entries, t.place, s.place);
      heads = omega (arith, t.counts.heads);
    }

pub loop-at-preserved : goal.loop-at-preserved
loop-at-preserved g c =
    let kind = g.Item.BlockItem.kind in
    let list = c.args.self.now.list in
    let i = c.loop-at.invariant in
    let e = c.take_rest-item.ensures in
    let is_place = i.is_place in
    let b = is_place.is_place in
    let r = list.interval in
    let same : c.from.result ≡ r = c.from.ensures ∙ c.interval.ensures.value in
    let first = (c.args.end - 1) / c.from.result * r in
    let near : c.args.end ≤ (c.args.end - 1) / r * r + r = first_near r c.args.end c.interval.ensures.listed.interval_some in
    let near_first : c.args.end ≤ first + r = rw same near in
    let pushed = ap length c.push-in-loop-at.ensures.items ∙ length_push c.loop-at.stack.items c.loop-at.at.offset in
    let rem : (first + length c.loop-at.stack.items) % r ≡ length c.loop-at.stack.items =
    mod_in_interval first (length c.loop-at.stack.items) r (mul-mod_left ((c.args.end - 1) / c.from.result) r) (omega (arith, near_first, i.count, c.loop-at-test.true)) in
    let phase : c.loop-at.at.phase ≡ length c.loop-at.stack.items = b.phase ∙ ap (λ n. n % r) (sym i.count) ∙ rem in
    let next = (rw i.same at e.is_place) is_place.head b in
    record {
      same = e.list ∙ i.same;
      is_place = record { head = is_place.head; is_place = next.0 };
      upto = omega (arith, e.place, c.loop-at-test.true);
      some = omega (arith, pushed);
      count = omega (arith, e.place, i.count, pushed);
      places = rw (c.push-in-loop-at.ensures.items, e.base) (stack_push kind list c.loop-at.stack.items c.loop-at.at.base first c.loop-at.at i.places (sym i.count) phase refl is_place);
      entries = omega (arith, e.counts.entries, e.place, i.entries);
      heads = omega (arith, e.counts.heads, i.heads);
    }

pub returns-clause-places : goal.returns-clause-places
returns-clause-places g c =
    let same : c.from.result ≡ c.args.self.now.list.interval = c.from.ensures ∙ c.interval.ensures.value in
    rw first_of_is (rw same at c.loop-at.invariant.places)

pub returns-clause-count : goal.returns-clause-count
returns-clause-count g c =
    let r = c.args.self.now.list.interval in
    let same : c.from.result ≡ r = c.from.ensures ∙ c.interval.ensures.value in
    let n : (c.args.end - 1) / r * r + length c.loop-at.stack.items ≡ c.loop-at.at.index = rw same at c.loop-at.invariant.count in
    let is = first_of_is r c.args.end in
    omega (arith, n, is, c.loop-at.invariant.upto, c.loop-at-test.false)

pub returns-clause-counts : goal.returns-clause-counts
returns-clause-counts g c =
    let r = c.args.self.now.list.interval in
    let same : c.from.result ≡ r = c.from.ensures ∙ c.interval.ensures.value in
    let i = c.loop-at.invariant in
    let m : c.loop-at.self.steps.entries + (c.args.end - 1) / r * r ≡ c.args.self.now.steps.entries + c.loop-at.at.index = rw same at i.entries in
    let is = first_of_is r c.args.end in
    let below = first_below r c.args.end c.requires.some in
    record { heads = omega (arith, i.heads); entries = omega (arith, m, is, below, i.upto, c.loop-at-test.false) }
