use Rattle.std.proofs.Common.{◌+◌, ◌/◌, ◌∙◌, ap, subst, sym}
use Rattle.sst_sources.specs.ErrorLaws.{merge_gives, merge_no_more}
use Rattle.sst_sources.specs.Picks.{IsPick}
use Rattle.sst_sources.specs.Sources.{MayGive}
use Rattle.sst_sources.specs.SourceLaws.{passed_merge}
use Rattle.sst_merge.specs.Tournament.{IsTournament}
use Rattle.sst_merge.proofs.Merging.Tournaments.{still_tournament}
use Rattle.sst_merge.proofs.merge.Merge.advance.Goals as goal
use Rattle.std.specs.Result.{result_err}

pub returns-in-Ok-clause-first : goal.returns-in-Ok-clause-first
returns-in-Ok-clause-first g c =
    let cmp = g.T.Ranked.cmp in
    let heads = c.self.inside.heads.items in
    let first = c.first_of-first.result in
    let p : IsPick cmp heads first = subst (λ ls. IsPick cmp ls first) c.deref-2.ensures.value c.first_of-first.ensures.first in
    passed_merge cmp _ _ heads first c.index_mut.result.now c.advance.new.self _ c.in-Ok.passed c.self.view_is p c.index_mut.ensures.value c.in-Ok.ensures.first

pub invariant_of-self-in-Err : goal.invariant_of-self-in-Err
invariant_of-self-in-Err g c = λ some.
    still_tournament g.T.Ranked.cmp g.T.Ranked.ordered c.self.inside.heads.items c.deref-2.result.now c.first_of-first.new.places.items _ _ c.first_of-first.result c.advance.new.self c.deref-2.ensures.value c.first_of-first.ensures.fresh (c.len.ensures ∙ sym c.deref-2.ensures.len) c.first_of-first.ensures.first.inside c.first_of-first.ensures.kept

pub first_of-requires : goal.first_of-requires
first_of-requires g c =
    subst (λ ls. IsTournament g.T.Ranked.cmp ls c.first_of-first.new.places.items ((c.len.result + c.first_of-first.result) / 2)) (sym c.deref-in-Ok.ensures.value)
    (still_tournament g.T.Ranked.cmp g.T.Ranked.ordered c.self.inside.heads.items c.deref-2.result.now c.first_of-first.new.places.items _ c.len.result c.first_of-first.result c.advance.new.self c.deref-2.ensures.value c.first_of-first.ensures.fresh (c.len.ensures ∙ sym c.deref-2.ensures.len) c.first_of-first.ensures.first.inside c.first_of-first.ensures.kept)

pub returns-in-Ok-clause-no_more : goal.returns-in-Ok-clause-no_more
returns-in-Ok-clause-no_more g c =
    let cmp = g.T.Ranked.cmp in
    let heads = c.self.inside.heads.items in
    let first = c.first_of-first.result in
    let p : IsPick cmp heads first = subst (λ ls. IsPick cmp ls first) c.deref-2.ensures.value c.first_of-first.ensures.first in
    merge_no_more cmp _ _ heads first c.index_mut.result.now c.advance.new.self c.args.self.now c.self.view_is (c.keep_error.ensures ∙ ap result_err c.in_ok-ready.was) p c.index_mut.ensures.value c.in-Ok.ensures.no_more

pub returns-in-Err-clause-cause : goal.returns-in-Err-clause-cause
returns-in-Err-clause-cause g c =
    let cmp = g.T.Ranked.cmp in
    let heads = c.self.inside.heads.items in
    let first = c.first_of-first.result in
    let p : IsPick cmp heads first = subst (λ ls. IsPick cmp ls first) c.deref-2.ensures.value c.first_of-first.ensures.first in
    subst (MayGive g.I.Source.may_fail c.args.self.now) (sym c.note_error.ensures.same)
    (merge_gives cmp g.I.Source.may_fail _ heads first c.index_mut.result.now c.args.self.now c.in-Err.error c.self.view_is p c.index_mut.ensures.value c.in-Err.ensures.cause)
