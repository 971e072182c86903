use Rattle.std.proofs.Common.{◌<◌, ◌≡◌, length, map, rules, subst, sym, true}
use Rattle.std.specs.Option.{IfSome}
use Rattle.sstable_blocks.specs.Prelude.{some_left}
use Rattle.sst_merge.specs.Movable.{IsFrontPick}
use Rattle.sst_merge.specs.Moved.{MayStop, are_known, windows}
use Rattle.sst_merge.proofs.Moving.MovableLaws.{same_source}
use Rattle.sst_merge.proofs.Moving.MovedLaws.{asks_one, ends_first, keeps_first, keeps_lost, none_first, stops_by, takes_first}
use Rattle.sst_merge.proofs.movable.MovableMerge.next.Goals as goal

pub returns-then-is_empty-clause-step : goal.returns-then-is_empty-clause-step
returns-then-is_empty-clause-step g c =
    let ss = c.self.inside.sources.items in
    let none : length ss ≡ 0 = search rules in
    ends_first g.T.Ranked.cmp g.T.Ranked.ordered g.I.Movable.moved ss c.self.invariant c.self.inside.ended c.in_default.is c.args.self.now c.self.view_is none

pub returns-then-not-has_left-clause-step : goal.returns-then-not-has_left-clause-step
returns-then-not-has_left-clause-step g c =
    let cmp = g.T.Ranked.cmp in
    let moved = g.I.Movable.moved in
    let ss = c.self.inside.sources.items in
    let p = c.first_source-first.result in
    let pick = subst (λ xs. are_known (map moved xs) ≡ true → IsFrontPick cmp (windows (map moved xs)) p) c.deref.ensures.value c.first_source-first.ensures.pick in
    let inside : p < length ss = subst (λ xs. p < length xs) c.deref.ensures.value c.first_source-first.ensures.inside in
    none_first cmp g.T.Ranked.ordered moved ss c.self.invariant c.self.inside.ended c.in_default.is c.args.self.now c.self.view_is p c.index.result.now inside c.index.ensures c.has_left.result pick c.has_left.ensures c.if-not-has_left.true

pub invariant_of-self : goal.invariant_of-self
invariant_of-self g c =
    let cmp = g.T.Ranked.cmp in
    let moved = g.I.Movable.moved in
    let ss = c.self.inside.sources.items in
    let p = c.first_source-first.result in
    let pick = subst (λ xs. are_known (map moved xs) ≡ true → IsFrontPick cmp (windows (map moved xs)) p) c.deref.ensures.value c.first_source-first.ensures.pick in
    let inside : p < length ss = subst (λ xs. p < length xs) c.deref.ensures.value c.first_source-first.ensures.inside in
    keeps_first cmp g.T.Ranked.ordered moved ss c.self.invariant c.self.inside.ended c.in_default.is c.args.self.now c.self.view_is p c.index_mut.result.now inside c.index_mut.ensures.value c.next.new.self c.in-Ok.taken pick c.in-Ok.ensures.step

pub invariant_of-self-in-Err : goal.invariant_of-self-in-Err
invariant_of-self-in-Err g c =
    let ss = c.self.inside.sources.items in
    let p = c.first_source-first.result in
    let inside : p < length ss = subst (λ xs. p < length xs) c.deref.ensures.value c.first_source-first.ensures.inside in
    keeps_lost g.T.Ranked.cmp g.T.Ranked.ordered g.I.Movable.moved ss c.self.invariant c.self.inside.ended c.in_default.is c.args.self.now c.self.view_is p c.index_mut.result.now inside c.index_mut.ensures.value c.next.new.self c.in-Err.ensures.ended.lost

pub returns-in-Ok-clause-step : goal.returns-in-Ok-clause-step
returns-in-Ok-clause-step g c =
    let cmp = g.T.Ranked.cmp in
    let moved = g.I.Movable.moved in
    let ss = c.self.inside.sources.items in
    let p = c.first_source-first.result in
    let pick = subst (λ xs. are_known (map moved xs) ≡ true → IsFrontPick cmp (windows (map moved xs)) p) c.deref.ensures.value c.first_source-first.ensures.pick in
    let inside : p < length ss = subst (λ xs. p < length xs) c.deref.ensures.value c.first_source-first.ensures.inside in
    let some = subst (λ s. IfSome (moved s).window (λ w. c.has_left.result ≡ some_left w)) (same_source ss p c.index.result.now c.index_mut.result.now inside c.index.ensures c.index_mut.ensures.value) c.has_left.ensures in
    takes_first cmp g.T.Ranked.ordered moved ss c.self.invariant c.self.inside.ended c.in_default.is c.args.self.now c.self.view_is p c.index_mut.result.now inside c.index_mut.ensures.value c.next.new.self c.in-Ok.taken c.has_left.result pick some c.if-not-has_left.false c.in-Ok.ensures.step

pub returns-in-Err-clause-cause : goal.returns-in-Err-clause-cause
returns-in-Err-clause-cause g c =
    let ss = c.self.inside.sources.items in
    let p = c.first_source-first.result in
    let inside : p < length ss = subst (λ xs. p < length xs) c.deref.ensures.value c.first_source-first.ensures.inside in
    subst (MayStop g.I.Movable.may_fail c.args.self.now) (sym c.note_error.ensures.same)
    (stops_by g.T.Ranked.cmp g.T.Ranked.ordered g.I.Movable.moved ss c.self.invariant c.self.inside.ended c.in_default.is c.args.self.now c.self.view_is p c.index_mut.result.now inside c.index_mut.ensures.value g.I.Movable.may_fail c.in-Err.error c.in-Err.ensures.cause)

pub returns-in-Ok-clause-most : goal.returns-in-Ok-clause-most
returns-in-Ok-clause-most g c =
    let ss = c.self.inside.sources.items in
    let p = c.first_source-first.result in
    let inside : p < length ss = subst (λ xs. p < length xs) c.deref.ensures.value c.first_source-first.ensures.inside in
    asks_one g.T.Ranked.cmp g.T.Ranked.ordered g.I.Movable.moved ss c.self.invariant c.self.inside.ended c.in_default.is c.args.self.now c.self.view_is p c.index_mut.result.now inside c.index_mut.ensures.value _ c.next.new.self c.in-Ok.ensures.most

pub returns-in-Err-clause-most : goal.returns-in-Err-clause-most
returns-in-Err-clause-most g c =
    let ss = c.self.inside.sources.items in
    let p = c.first_source-first.result in
    let inside : p < length ss = subst (λ xs. p < length xs) c.deref.ensures.value c.first_source-first.ensures.inside in
    asks_one g.T.Ranked.cmp g.T.Ranked.ordered g.I.Movable.moved ss c.self.invariant c.self.inside.ended c.in_default.is c.args.self.now c.self.view_is p c.index_mut.result.now inside c.index_mut.ensures.value _ c.next.new.self c.in-Err.ensures.most
