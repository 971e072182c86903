use Rattle.std.proofs.Common.{ap, not, sym, ◌∙◌}
use Rattle.std.specs.Ordering.{is_lt}
use Rattle.sst_sources.specs.Merge.{entry_cmp}
use Rattle.sst_parts.proofs.Merged.Steps.{goes_alone, goes_by, goes_not, none_peeked, peeked}
use Rattle.sst_parts.proofs.merging.is_first.Goals as goal

pub returns-in-Some-Some : goal.returns-in-Some-Some
returns-in-Some-Some g c = λ xs ys a b.
    let p = peeked (λ r. r.now) c.args.newer.now.list c.peek.result c.in-Some-Some.x c.peek.ensures.first c.in-Some-Some.is-0 xs a in
    let q = peeked (λ r. r.now) c.args.part.now.list c.peek-2.result c.in-Some-Some.y c.peek-2.ensures.first c.in-Some-Some.is-1 ys b in
    let y = c.in-Some-Some.y.now in
    let by = c.compare.ensures ∙ ap (λ v. entry_cmp v c.view-in-Some-Some.result) c.view.ensures ∙ ap (entry_cmp y) c.view-in-Some-Some.ensures in
    ap not (c.is_lt.ensures ∙ ap is_lt by) ∙ sym (goes_by xs ys c.in-Some-Some.x.now y p q)

pub returns-in-Some-None : goal.returns-in-Some-None
returns-in-Some-None g c = λ xs ys a b. sym (goes_alone xs ys (none_peeked (λ r. r.now) c.args.part.now.list c.peek-2.result c.peek-2.ensures.first c.in-Some-None.is-1 ys b))

pub returns-in-None-default : goal.returns-in-None-default
returns-in-None-default g c = λ xs ys a b. sym (goes_not xs ys (none_peeked (λ r. r.now) c.args.newer.now.list c.peek.result c.peek.ensures.first c.in-None-default.is-0 xs a))
