-- The first item of a merge is that of the source that is picked.
use Rattle.std.proofs.Common.{◌≡◌, ℕ, List, [], ◌∷◌, length, map, Option, Some, None, get_or, slice_get, refl, sym, ap, subst, ◌∙◌, arith}
use Rattle.std.proofs.lemmas.List.{get_or-map, length-map}
use Rattle.std.specs.Prelude.{IfSome}
use Rattle.std.specs.Option.{option_map}
use Rattle.std.specs.declared.cmp.Ordering.{Ordering}
use Rattle.sst_sources.specs.Merge.{merged}
use Rattle.sst_sources.specs.Picks.{IsPick, list_at, least, least_none, least_some}
use Rattle.sst_sources.specs.Sources.{Left, lists_left}
use Rattle.sst_sources.specs.SourceLaws.{known_at}

module _ {X : Type 0} (cmp : X → X → Ordering) where
  first_of : (xss : List (List X)) (l : List X) → list_at xss (least cmp xss) ≡ l → slice_get l 0 ≡ slice_get (merged cmp xss) 0
  first_of xss [] e = ap (λ m. slice_get m 0) (sym (least_none cmp xss e))
  first_of xss (x ∷ xs) e = ap (λ m. slice_get m 0) (sym (least_some cmp xss x xs e))

  pub peeked : (ls : List (Left X)) (i : ℕ) (l : Left X) (r : Option X) → l ≡ get_or ls i l → IsPick cmp ls i → IfSome l.list (λ xs. r ≡ slice_get xs 0)
      → (o : Option (List (List X))) → lists_left ls ≡ o → IfSome (option_map (merged cmp) o) (λ xs. r ≡ slice_get xs 0)
  peeked ls i l r here p first None known = tt
  peeked ls i l r here p first (Some xss) known =
      let f = λ (s : Left X). s.list in
      let k : length (map f ls) ≡ length ls = length-map ls f in
      let inside = p.inside in
      let at : l.list ≡ Some (list_at xss i) = sym (get_or-map f ls i l l.list inside ∙ ap f (sym here)) ∙ known_at (map f ls) xss i l.list known (omega (arith, k, inside)) in
      let e : l.list ≡ Some (list_at xss (least cmp xss)) = at ∙ ap (λ n. Some (list_at xss n)) (p.is xss known) in
      let f : r ≡ slice_get (list_at xss (least cmp xss)) 0 = subst (λ o. IfSome o (λ xs. r ≡ slice_get xs 0)) e first in
      f ∙ first_of xss (list_at xss (least cmp xss)) refl
