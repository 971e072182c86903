use Rattle.std.proofs.Common.{arith, sym}
use Rattle.sst_calls.proofs.Lists.Fronts.{above_all, counted_by, fronts_rise, fronts_small}
use Rattle.sst_calls.proofs.fronts.place_by.Goals.{else-place-fronts-via-then-place-fronts+else-fronts-place, else-place-fronts-via-else-place-fronts}
use Rattle.sst_calls.proofs.fronts.place_by.Goals as goal

pub count_below-place-requires-clause-rising : goal.count_below-place-requires-clause-rising
count_below-place-requires-clause-rising c = let r = c.requires in fronts_rise c.args.prefix.now c.args.fronts.now r.0 r.2 r.1

pub count_below-place-requires-clause-small : goal.count_below-place-requires-clause-small
count_below-place-requires-clause-small c = let r = c.requires in fronts_small c.args.prefix.now c.args.fronts.now r.0 r.2

pub returns : goal.returns
returns c = λ hs seqno order are.
    let at = c.count_below-place in
    let rise = fronts_rise c.args.prefix.now c.args.fronts.now hs are order in
    sym (counted_by c.args.prefix.now c.args.key.now c.in-Some.front c.in-Some.ensures seqno c.args.fronts.now hs are at.result at.ensures.within at.ensures.below (elim c.else-place-fronts.branch [
      | else-place-fronts-via-then-place-fronts+else-fronts-place w ↦ above_all c.args.fronts.now c.in-Some.front at.result rise w.if-place-fronts.true (at.ensures.others at.result 0 (omega arith) w.if-place-fronts.true) w.if-fronts-place.false
      | else-place-fronts-via-else-place-fronts w ↦ λ i d from less. absurd (omega (arith, w.if-place-fronts.false, from, less))
    ]))
