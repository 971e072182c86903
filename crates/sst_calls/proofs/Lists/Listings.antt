-- The places of items, one after the other.
use Rattle.std.proofs.Common.{◌≡◌, ◌≢◌, ℕ, zero, suc, ◌+◌, ◌<◌, ◌≤◌, List, [], ◌∷◌, length, take, drop, set, get_or, sym, ◌∙◌, ap, arith, Some, inl, inr, subst, length-set}
use Rattle.std.specs.Prelude.{slice_get}
use Rattle.std.proofs.lemmas.Bool.{cases_order}
use Rattle.std.proofs.lemmas.Grind.{get_or-set_at}
use Rattle.std.proofs.lemmas.List.{get_or-set_other, get_or-take, length-take-le, drop-set-lt, drop-drop}
use Rattle.std.proofs.lemmas.Option.{slice_get_within, get_or_from_slice_get, slice_get-get_or}
use Rattle.sst_calls.specs.Listing.{AreAt}

-- a place more
pub one_more_listed : {F X : Type 0} (IsAt : F → X → Type 0) (items : List X) (old new : List F) (i : ℕ) (f : F) (e : X) → i < length items → i < length old
    → slice_get items i ≡ Some e → IsAt f e → AreAt IsAt (take i items) old new → AreAt IsAt (take (i + 1) items) old (set new i f)
one_more_listed {F} {X} IsAt items old new i f e within room at is so_far = record {
  each = each;
  others = ap (λ k. drop k (set new i f)) more_len ∙ drop-set-lt (i + 1) new i f (omega arith) ∙ rest ∙ sym (ap (λ k. drop k old) more_len);
  kept = length-set new i f ∙ so_far.kept;
}
  where
    len : length (take i items) ≡ i
    len = length-take-le i items (omega (arith, within))

    more_len : length (take (i + 1) items) ≡ i + 1
    more_len = length-take-le (i + 1) items (omega (arith, within))

    inside : i < length new
    inside = omega (arith, so_far.kept, room)

    behind : drop i new ≡ drop i old
    behind = sym (ap (λ k. drop k new) len) ∙ so_far.others ∙ ap (λ k. drop k old) len

    rest : drop (i + 1) new ≡ drop (i + 1) old
    rest = sym (drop-drop 1 i new) ∙ ap (drop 1) behind ∙ drop-drop 1 i old

    here_is : (j : ℕ) (g : F) (d : X) → slice_get (set new i f) j ≡ Some g → slice_get (take (i + 1) items) j ≡ Some d → j ≡ i → IsAt g d
    here_is j g d here there same =
        let place : g ≡ f = sym (get_or_from_slice_get (set new i f) j g g here) ∙ get_or-set_at new i j f g same inside in
        let entry : d ≡ e = sym (get_or_from_slice_get (take (i + 1) items) j d d there) ∙ get_or-take (i + 1) items j d (omega (arith, same)) ∙ ap (λ k. get_or items k d) same ∙ get_or_from_slice_get items i e d at in
        subst (λ x. IsAt x d) (sym place) (subst (λ x. IsAt f x) (sym entry) is)

    before : (j : ℕ) (g : F) (d : X) → slice_get (set new i f) j ≡ Some g → slice_get (take (i + 1) items) j ≡ Some d → j < i → IsAt g d
    before j g d here there less =
        let other : j ≢ i = λ same. omega (arith, same, less) in
        let place : slice_get new j ≡ Some g = slice_get-get_or new j g (omega (arith, inside, less)) ∙ ap Some (sym (get_or-set_other new i j f g other) ∙ get_or_from_slice_get (set new i f) j g g here) in
        let entry : slice_get (take i items) j ≡ Some d =
        slice_get-get_or (take i items) j d (omega (arith, len, less))
        ∙ ap Some (get_or-take i items j d less ∙ sym (get_or-take (i + 1) items j d (omega (arith, less))) ∙ get_or_from_slice_get (take (i + 1) items) j d d there) in
        so_far.each j g d place entry

    each : (j : ℕ) (g : F) (d : X) → slice_get (set new i f) j ≡ Some g → slice_get (take (i + 1) items) j ≡ Some d → IsAt g d
    each j g d here there = elim (cases_order j i) [
      | inl same ↦ here_is j g d here there same
      | inr other ↦ elim other [
        | inl less ↦ before j g d here there less
        | inr more ↦ absurd (omega (arith, slice_get_within (take (i + 1) items) j d there, more_len, more))
      ]
    ]

-- the element at an index, by the elements from there on
pub first_from : {X : Type 0} (xs rest : List X) (i : ℕ) (x : X) → drop i xs ≡ x ∷ rest → (i < length xs) × (slice_get xs i ≡ Some x) × (drop (suc i) xs ≡ rest)
first_from [] rest zero x e = absurd (cc)
first_from [] rest (suc i) x e = absurd (cc)
first_from (y ∷ xs) rest zero x e =
    let first : y ≡ x = cc (e) in
    let others : xs ≡ rest = cc (e) in
    (omega arith, ap Some first, others)
first_from (y ∷ xs) rest (suc i) x e =
    let later = first_from xs rest i x e in
    (omega (arith, later.0), later.1, later.2)
