use Rattle.std.proofs.Common.{◌<◌, ◌≡◌, arith, length, map, rules, subst, true, ◌∙◌}
use Rattle.std.proofs.lemmas.List.{length-map}
use Rattle.std.specs.Option.{IfSome}
use Rattle.sstable_blocks.specs.Prelude.{some_left}
use Rattle.sst_merge.specs.Movable.{IsFrontPick}
use Rattle.sst_merge.specs.Moved.{are_known, windows}
use Rattle.sst_merge.proofs.Moving.MovableLaws.{same_source}
use Rattle.sst_merge.proofs.Moving.MovedLaws.{many_moved, moved_at, shows_first, shows_no_first, shows_none_first}
use Rattle.sst_merge.proofs.movable.MovableMerge.first.Goals as goal

pub returns-then-is_empty : goal.returns-then-is_empty
returns-then-is_empty g c =
    let ss = c.self.inside.sources.items in
    let none : length ss ≡ 0 = search rules in
    shows_no_first g.T.Ranked.cmp g.T.Ranked.ordered (map g.I.Movable.moved ss) c.self.invariant c.self.inside.ended c.args.self.now c.self.view_is (length-map ss g.I.Movable.moved ∙ none)

pub returns-then-not-has_left : goal.returns-then-not-has_left
returns-then-not-has_left g c =
    let cmp = g.T.Ranked.cmp in
    let moved = g.I.Movable.moved in
    let ss = c.self.inside.sources.items in
    let first = c.first_source-first.result in
    let pick = subst (λ xs. are_known (map moved xs) ≡ true → IsFrontPick cmp (windows (map moved xs)) first) c.deref.ensures.value c.first_source-first.ensures.pick in
    let inside : first < length ss = subst (λ xs. first < length xs) c.deref.ensures.value c.first_source-first.ensures.inside in
    let n = many_moved cmp g.T.Ranked.ordered moved ss in
    shows_none_first cmp g.T.Ranked.ordered (map moved ss) c.self.invariant c.self.inside.ended c.args.self.now c.self.view_is first (moved c.index.result.now) (omega (arith, n, inside))
    (moved_at cmp g.T.Ranked.ordered moved ss first c.index.result.now inside c.index.ensures) c.has_left.result pick c.has_left.ensures c.if-not-has_left.true

pub returns : goal.returns
returns g c =
    let cmp = g.T.Ranked.cmp in
    let moved = g.I.Movable.moved in
    let ss = c.self.inside.sources.items in
    let first = c.first_source-first.result in
    let pick = subst (λ xs. are_known (map moved xs) ≡ true → IsFrontPick cmp (windows (map moved xs)) first) c.deref.ensures.value c.first_source-first.ensures.pick in
    let inside : first < length ss = subst (λ xs. first < length xs) c.deref.ensures.value c.first_source-first.ensures.inside in
    let n = many_moved cmp g.T.Ranked.ordered moved ss in
    let some = subst (λ s. IfSome (moved s).window (λ w. c.has_left.result ≡ some_left w)) (same_source ss first c.index.result.now c.index-2.result.now inside c.index.ensures c.index-2.ensures) c.has_left.ensures in
    shows_first cmp g.T.Ranked.ordered (map moved ss) c.self.invariant c.self.inside.ended c.args.self.now c.self.view_is first (moved c.index-2.result.now) (omega (arith, n, inside))
    (moved_at cmp g.T.Ranked.ordered moved ss first c.index-2.result.now inside c.index-2.ensures) c.has_left.result _ pick some c.if-not-has_left.false c.first.ensures
