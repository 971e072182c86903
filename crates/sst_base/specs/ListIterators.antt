-- A step of an iterator of std takes the first or the last item of its list.
use Rattle.std.specs.Prelude.{Option, Some, None}
use Rattle.std.specs.Iterator.{YieldsFirstBy, YieldsLastBy}
use Rattle.std.specs.Slice.Iter.{iter_rest, iter_steps, iter_steps_back}
use Rattle.std.specs.declared.slice.Iter.{Iter}
use Rattle.std.specs.Vec.Iter.{into_iter_items, into_iter_steps, into_iter_steps_back}
use Rattle.std.specs.declared.vec.IntoIter.{IntoIter}
use Rattle.std.specs.Borrow.{Bor}
use Rattle.std.proofs.lemmas.List.{nil_from_length}
use Rattle.std.proofs.Common.{ap, sym, ◌∙◌}

-- `next` of `slice::Iter`
pub slice_gives_first : {T : Type 0} (s : Iter T) (r : Option (Bor T)) (t : Iter T) → iter_steps s r t → YieldsFirstBy (λ (x : Bor T). x.now) iter_rest s r t
slice_gives_first s None t h = (nil_from_length _ h.0, ap iter_rest h.1 ∙ nil_from_length _ h.0)
slice_gives_first s (Some x) t h = h

-- `next_back` of `slice::Iter`
pub slice_gives_last : {T : Type 0} (s : Iter T) (r : Option (Bor T)) (t : Iter T) → iter_steps_back s r t → YieldsLastBy (λ (x : Bor T). x.now) iter_rest s r t
slice_gives_last s None t h = (nil_from_length _ h.0, ap iter_rest h.1 ∙ nil_from_length _ h.0)
slice_gives_last s (Some x) t h = h

-- `next` of `vec::IntoIter`
pub vec_gives_first : {T A : Type 0} (s : IntoIter T A) (r : Option T) (t : IntoIter T A) → into_iter_steps s r t → YieldsFirstBy (λ x. x) into_iter_items s r t
vec_gives_first s None t h = (nil_from_length _ (sym s.rest.ok.0 ∙ h.0), nil_from_length _ (sym t.rest.ok.0 ∙ h.1))
vec_gives_first s (Some x) t h = h.0

-- `next_back` of `vec::IntoIter`
pub vec_gives_last : {T A : Type 0} (s : IntoIter T A) (r : Option T) (t : IntoIter T A) → into_iter_steps_back s r t → YieldsLastBy (λ x. x) into_iter_items s r t
vec_gives_last s None t h = (nil_from_length _ (sym s.rest.ok.0 ∙ h.0), nil_from_length _ (sym t.rest.ok.0 ∙ h.1))
vec_gives_last s (Some x) t h = h
