use Rattle.std.proofs.Common.{map, refl, subst, sym}
use Rattle.sst_merge.specs.Movable.{is_at_most, seek_up_to}
use Rattle.sst_merge.specs.Moved.{MayStop, windows}
use Rattle.sst_merge.proofs.Moving.MovableLaws.{most_apart, seeks_back, sought_back}
use Rattle.sst_merge.proofs.Moving.MovedLaws.{lost_all, seeks_kept, seeks_merge, stops_merge}
use Rattle.sst_merge.proofs.movable.MovableMerge.seek_upper.Goals as goal

pub invariant_of-self : goal.invariant_of-self
invariant_of-self g c =
    let cmp = g.T.Ranked.cmp in
    let ss = c.self.inside.sources.items in
    let test = is_at_most g.T.Keyed.key c.args.key.now in
    let apart = most_apart cmp g.T.Keyed.key g.met.T.Keyed.by_key c.args.key.now in
    seeks_kept cmp g.T.Ranked.ordered g.I.Movable.moved ss c.self.invariant c.self.inside.ended c.in_default.is c.args.self.now c.self.view_is (seek_up_to test) c.seek_upper_all.new.sources.items refl c.in-Ok.ensures.sought
    (λ known. sought_back cmp g.T.Ranked.ordered test (windows (map g.I.Movable.moved ss)) apart (c.self.invariant known))

pub invariant_of-self-in-Err : goal.invariant_of-self-in-Err
invariant_of-self-in-Err g c = lost_all g.T.Ranked.cmp _ c.in-Err.ensures.lost

pub returns-in-Ok-clause-sought : goal.returns-in-Ok-clause-sought
returns-in-Ok-clause-sought g c =
    let cmp = g.T.Ranked.cmp in
    let ss = c.self.inside.sources.items in
    let test = is_at_most g.T.Keyed.key c.args.key.now in
    let apart = most_apart cmp g.T.Keyed.key g.met.T.Keyed.by_key c.args.key.now in
    seeks_merge cmp g.T.Ranked.ordered g.I.Movable.moved ss c.self.invariant c.self.inside.ended c.in_default.is c.args.self.now c.self.view_is (seek_up_to test) c.seek_upper_all.new.sources.items refl c.in-Ok.ensures.sought
    (λ known. seeks_back cmp g.T.Ranked.ordered test (windows (map g.I.Movable.moved ss)) apart (c.self.invariant known))

pub returns-in-Err-clause-cause : goal.returns-in-Err-clause-cause
returns-in-Err-clause-cause g c =
    subst (MayStop g.I.Movable.may_fail c.args.self.now) (sym c.note_error.ensures.same)
    (stops_merge g.T.Ranked.cmp g.T.Ranked.ordered g.I.Movable.moved c.self.inside.sources.items c.self.invariant c.self.inside.ended c.in_default.is c.args.self.now c.self.view_is g.I.Movable.may_fail c.in-Err.error c.in-Err.ensures.cause)
