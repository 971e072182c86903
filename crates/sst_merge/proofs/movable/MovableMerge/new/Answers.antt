use Rattle.std.proofs.Common.{Bool, None, Some, ap, map, ◌∙◌, if◌then◌else◌}
use Rattle.sst_merge.specs.Movable.{merged_window}
use Rattle.sst_merge.specs.Moved.{windows}
use Rattle.sst_merge.proofs.Moving.MovableLaws.{fresh_moved, fresh_whole}
use Rattle.sst_merge.proofs.Moving.MovedLaws.{fresh_sources}
use Rattle.sst_merge.proofs.movable.MovableMerge.new.Goals as goal

pub invariant_of-result : goal.invariant_of-result
invariant_of-result g c = λ known.
    let ms = map g.I.Movable.moved c.args.sources.items in
    fresh_moved g.T.Ranked.cmp g.T.Ranked.ordered (windows ms) (fresh_sources g.T.Ranked.cmp ms c.requires known)

pub returns-clause-whole : goal.returns-clause-whole
returns-clause-whole g c = λ known.
    let ms = map g.I.Movable.moved c.args.sources.items in
    ap (λ (k : Bool). if k then Some (merged_window g.T.Ranked.cmp (windows ms)) else None) known
    ∙ ap Some (fresh_whole g.T.Ranked.cmp g.T.Ranked.ordered (windows ms) (fresh_sources g.T.Ranked.cmp ms c.requires known))
