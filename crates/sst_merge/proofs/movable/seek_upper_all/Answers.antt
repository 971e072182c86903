use Rattle.std.proofs.Common.{map, drop, slice_set, ◌+◌, ◌<◌, ◌≡◌, length, ap, refl, ◌∙◌, arith}
use Rattle.std.proofs.lemmas.List.{length-map, length-set}
use Rattle.sst_merge.specs.Movable.{is_at_most, seek_up_to}
use Rattle.sst_merge.specs.Moved.{but_reads, sought}
use Rattle.sst_merge.proofs.Moving.MovableLaws.{changed_all}
use Rattle.sst_merge.proofs.Moving.MovedLaws.{asked_all, asked_grows, asked_more, asked_none, asked_twice, lost_source, most_of, one_changed, same_tables, stop_first, twice}
use Rattle.sst_merge.proofs.movable.seek_upper_all.Goals as goal

pub loop-i-init : goal.loop-i-init
loop-i-init g c = record { inside = omega arith; size = refl; moved = refl; grows = omega arith; most = asked_none g.I.Movable.moved twice c.args.sources.now.items }

pub loop-i-preserved : goal.loop-i-preserved
loop-i-preserved g c =
    let moved = g.I.Movable.moved in
    let f = sought (seek_up_to (is_at_most g.T.Keyed.key c.args.key.now)) in
    let old = c.args.sources.now.items in
    let ss = c.loop-i.sources.items in
    let s = c.index_mut.result.now in
    let t = c.seek_upper.new.self in
    let here : c.loop-i.i < length ss = omega (arith, c.loop-i-test.true, c.len.ensures, c.loop-i.sources.ok) in
    let n : length (slice_set ss c.loop-i.i t) ≡ length ss = length-set ss c.loop-i.i t in
    let inv = c.loop-i.invariant in
    record {
      inside = omega (arith, n, here);
      size = n ∙ inv.size;
      moved = one_changed (λ u. but_reads (moved u)) f old ss c.loop-i.i s here inv.size c.index_mut.ensures.value inv.moved t c.in-Ok.ensures.sought;
      grows = asked_grows moved twice old ss c.loop-i.i s t here inv.size c.index_mut.ensures.value c.in-Ok.ensures.most.grows inv.grows;
      most = asked_more moved twice old ss c.loop-i.i s t here inv.size c.index_mut.ensures.value (ap twice (same_tables moved f old ss c.loop-i.i s here inv.size c.index_mut.ensures.value inv.moved)) c.in-Ok.ensures.most.most inv.most;
    }

pub returns-clause-sought : goal.returns-clause-sought
returns-clause-sought g c =
    c.loop-i.invariant.moved ∙ changed_all (sought (seek_up_to (is_at_most g.T.Keyed.key c.args.key.now))) (map (λ s. but_reads (g.I.Movable.moved s)) c.args.sources.now.items) c.loop-i.i
    (let n = length-map c.args.sources.now.items (λ s. but_reads (g.I.Movable.moved s)) in omega (arith, n, c.loop-i-test.false, c.len.ensures, c.loop-i.sources.ok, c.loop-i.invariant.size))

pub returns-clause-most : goal.returns-clause-most
returns-clause-most g c =
    let old = c.args.sources.now.items in
    asked_all g.I.Movable.moved twice g.T.Ranked.cmp _ (most_of g.I.Movable.moved twice (drop c.loop-i.i old)) old c.loop-i.sources.items (asked_twice g.I.Movable.moved old) c.loop-i.invariant.grows c.loop-i.invariant.most

pub returns-in-Err-clause-lost : goal.returns-in-Err-clause-lost
returns-in-Err-clause-lost g c =
    let here : c.loop-i.i < length c.loop-i.sources.items = omega (arith, c.loop-i-test.true, c.len.ensures, c.loop-i.sources.ok) in
    lost_source g.I.Movable.moved c.loop-i.sources.items c.loop-i.i c.seek_upper.new.self here c.in-Err.ensures.ended.lost

pub returns-in-Err-clause-most : goal.returns-in-Err-clause-most
returns-in-Err-clause-most g c =
    let moved = g.I.Movable.moved in
    let old = c.args.sources.now.items in
    let ss = c.loop-i.sources.items in
    let s = c.index_mut.result.now in
    let t = c.seek_upper.new.self in
    let here : c.loop-i.i < length ss = omega (arith, c.loop-i-test.true, c.len.ensures, c.loop-i.sources.ok) in
    let inv = c.loop-i.invariant in
    asked_all moved twice g.T.Ranked.cmp _ (most_of moved twice (drop (c.loop-i.i + 1) old)) old (slice_set ss c.loop-i.i t) (asked_twice moved old)
    (asked_grows moved twice old ss c.loop-i.i s t here inv.size c.index_mut.ensures.value c.in-Err.ensures.most.grows inv.grows)
    (asked_more moved twice old ss c.loop-i.i s t here inv.size c.index_mut.ensures.value (ap twice (same_tables moved (sought (seek_up_to (is_at_most g.T.Keyed.key c.args.key.now))) old ss c.loop-i.i s here inv.size c.index_mut.ensures.value inv.moved)) c.in-Err.ensures.most.most inv.most)

pub returns-in-Err-clause-cause : goal.returns-in-Err-clause-cause
returns-in-Err-clause-cause g c =
    let here : c.loop-i.i < length c.loop-i.sources.items = omega (arith, c.loop-i-test.true, c.len.ensures, c.loop-i.sources.ok) in
    stop_first g.T.Ranked.cmp g.T.Ranked.ordered g.I.Movable.moved (sought (seek_up_to (is_at_most g.T.Keyed.key c.args.key.now))) c.args.sources.now.items c.loop-i.sources.items c.loop-i.i c.index_mut.result.now here c.loop-i.invariant.size c.index_mut.ensures.value c.loop-i.invariant.moved g.I.Movable.may_fail _ c.in-Err.ensures.cause
