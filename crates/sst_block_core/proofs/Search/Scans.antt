-- A search within one interval.
use Rattle.std.proofs.Common.{◌≡◌, ℕ, ◌+◌, ◌-◌, ◌*◌, ◌%◌, ◌<◌, ◌≤◌, min, List, length, drop, Some, Option, true, false, Bool, refl, sym, ap, subst, cond, None, MatchOption, ◌∙◌, arith}
use Rattle.std.specs.Prelude.{nat_lt, ◌==◌, if◌then◌else◌}
use Rattle.std.specs.List.{slice_get}
use Rattle.std.proofs.lemmas.Nat.{mod-mul-add}
use Rattle.std.proofs.lemmas.Option.{same_Some}
use Rattle.std.specs.Ordering.{nat_cmp, is_eq}
use Rattle.std.specs.declared.cmp.Ordering.{Ordering}
use Rattle.std.specs.declared.cmp.Ordering.TheVariants.{Less, Greater}
use Rattle.std.specs.Cmp.Lexicographic.{slice_cmp}
use Rattle.sst_base.specs.SharedPrefix.{shared_prefix_length}
use Rattle.sst_base.specs.SharedPrefixLaws.{shared_prefix_inside}
use Rattle.sst_block_core.specs.Kind.{Kind, IsOrdered}
use Rattle.sst_block_core.specs.Scan.{Listed, IsPlaceAfter}
use Rattle.sst_block_core.specs.Window.{passes_cmp, passes, count_passed}
use Rattle.sst_block_core.specs.Intervals.{IsEntered, IsFoundAt}
use Rattle.sst_block_core.specs.Candidates.{IsCandidateAt, with_needle}
use Rattle.sst_block_core.specs.declared.table.block.candidate.Candidate.{Candidate}
use Rattle.sst_block_core.specs.declared.table.block.place.Place.{Place}
use Rattle.sst_block_core.proofs.Search.Cuts.{cut_ordered, passed_below, not_passed_above}
use Rattle.sst_block_core.proofs.Search.SharedFronts.{order_by_lengths}

-- a value that is kept where a test is true, by cases
pub kept_match : {P : Type 0} (p : P) (b : Bool) (r : Option P) (None' : Type 0) (Some' : P → Type 0) → r ≡ cond b (Some p) None → (b ≡ false → None') → (b ≡ true → Some' p) → MatchOption r None' Some'
kept_match p true r None' Some' e bad good = subst (λ o. MatchOption o None' Some') (sym e) (good refl)
kept_match p false r None' Some' e bad good = subst (λ o. MatchOption o None' Some') (sym e) (bad refl)

-- weaker statements of no value, and of a value
pub match_less : {P : Type 0} (r : Option P) (None' None'' : Type 0) (Some' Some'' : P → Type 0) → MatchOption r None' Some' → (None' → None'') → ((p : P) → Some' p → Some'' p) → MatchOption r None'' Some''
match_less None None' None'' Some' Some'' m none some = none m
match_less (Some p) None' None'' Some' Some'' m none some = some p m

-- a search in the interval of the last head that passes finds the first item that doesn't
pub stop_place : (n r heads place count : ℕ) → 0 < heads → place ≡ min (min n ((heads - 1 + 1) * r)) count → count ≤ heads * r → count ≤ n → place ≡ count
stop_place n r heads place count some is high inside =
    let k : heads - 1 + 1 ≡ heads = omega arith in
    let m = ap (λ j. j * r) k in
    omega (arith, is, high, inside, m)

module _ {X P : Type 0} (item_of : List ℕ → P → X) (is_found : List ℕ → P → Type 0) (kind : Kind X) (needle : List ℕ) (list : Listed X) (place end : ℕ) where
  -- where a search stopped at an item, or at an end, that is the needle's item or there is none
  pub candidate_match : (candidate : Option (Candidate P)) (r : Option P) → r ≡ with_needle candidate
      → MatchOption candidate (place ≡ end) (λ l. IsCandidateAt item_of is_found kind needle list place l × (place < end))
      → MatchOption r
      ((x : X) → place < end → slice_get list.items place ≡ Some x → is_eq (slice_cmp nat_cmp (kind.key x) needle) ≡ false)
      (λ p. IsFoundAt item_of is_found kind needle list place p × (place < end))
  candidate_match None r e m = subst (λ o. MatchOption o
      ((x : X) → place < end → slice_get list.items place ≡ Some x → is_eq (slice_cmp nat_cmp (kind.key x) needle) ≡ false)
      (λ p. IsFoundAt item_of is_found kind needle list place p × (place < end))) (sym e) (λ x less at. absurd (omega (arith, m, less)))
  candidate_match (Some l) r e m =
      let candidate = m.0 in
      let held = candidate.held in
      kept_match l.item (is_eq l.order) r _ _ e
      (λ other x less at. ap (λ y. is_eq (slice_cmp nat_cmp (kind.key y) needle)) (same_Some x _ (sym at ∙ held.there)) ∙ ap is_eq (sym candidate.order_is) ∙ other)
      (λ equal. (record { there = held.there; found = held.found; same_key = ap is_eq (sym candidate.order_is) ∙ equal }, m.1))

  -- the same where there is no item at the end
  pub candidate_found : (candidate : Option (Candidate P)) (r : Option P) → r ≡ with_needle candidate
      → MatchOption candidate (place ≡ end) (λ l. IsCandidateAt item_of is_found kind needle list place l × (place < end))
      → ((x : X) → slice_get list.items place ≡ Some x → place < end)
      → MatchOption r
      ((x : X) → slice_get list.items place ≡ Some x → is_eq (slice_cmp nat_cmp (kind.key x) needle) ≡ false)
      (IsFoundAt item_of is_found kind needle list place)
  candidate_found candidate r e m inside = match_less r _ _ _ _ (candidate_match candidate r e m) (λ other x at. other x (inside x at) at) (λ p both. both.0)

-- an index after a head and before the next is no head's
between_heads : (j r i : ℕ) → j * r < i → i < (j + 1) * r → 0 < i % r
between_heads j r i low high =
    let e : i ≡ j * r + (i - j * r) = omega arith in
    let row : (j + 1) * r ≡ j * r + r = omega arith in
    let m : i % r ≡ i - j * r = ap (λ k. k % r) e ∙ mod-mul-add j r (i - j * r) (omega (arith, row)) in
    omega (arith, m)

module _ {X : Type 0} (kind : Kind X) (needle : List ℕ) (from : Option ℕ) (list : Listed X) (ordered : IsOrdered kind list.items) (j : ℕ) (inside : j * list.interval < length list.items) (x : X) (there : slice_get list.items (j * list.interval) ≡ Some x) where
  -- a head before the count passes
  pub head_passes : j * list.interval < count_passed kind needle from list.items → passes needle from (kind.key x) (kind.seqno x) ≡ true
  head_passes below = (cut_ordered kind needle from list.items ordered).first (j * list.interval) x below there

  -- after a head that passes a search has reached the next place
  pub enters : (at : Place) (alike end : ℕ) → 0 < list.interval → passes needle from (kind.key x) (kind.seqno x) ≡ true → at.index ≡ j * list.interval + 1 → IsPlaceAfter kind list at (kind.key x)
      → alike ≡ shared_prefix_length (kind.key x) needle → end ≡ min (length list.items) ((j + 1) * list.interval) → IsEntered kind needle from list at alike end
  enters at alike end pos passed place_is is_place alike_is end_is =
      let below = passed_below kind needle from list.items ordered (j * list.interval) x there passed in
      let row : (j + 1) * list.interval ≡ j * list.interval + list.interval = omega arith in
      record {
        index = j * list.interval;
        before = omega (arith, place_is);
        head = x;
        there = there;
        passed = passed;
        shared_is = alike_is;
        is_place = is_place;
        reached = omega (arith, below, place_is);
        upto = omega (arith, place_is, end_is, row, pos, inside);
        inside = omega (arith, end_is);
        no_head = λ i low high. between_heads j list.interval i (omega (arith, low, place_is)) (omega (arith, high, end_is));
      }

module _ {X : Type 0} (kind : Kind X) (needle : List ℕ) (from : Option ℕ) (list : Listed X) (at : Place) (alike end : ℕ) (e : IsEntered kind needle from list at alike end) where
  -- what head and needle share lies in the needle
  pub alike_inside : alike ≤ length needle
  alike_inside = let s = (shared_prefix_inside (kind.key e.head) needle).1 in let a = e.shared_is in omega (arith, s, a)

  module _ (ordered : IsOrdered kind list.items) (x : X) (there : slice_get list.items at.index ≡ Some x) (shared : ℕ) (rest : List ℕ)
      (shared_is : shared ≡ shared_prefix_length (kind.key e.head) (kind.key x)) (rest_is : rest ≡ drop shared (kind.key x)) (order : Ordering)
      (is : order ≡ (if shared == alike then slice_cmp nat_cmp rest (drop alike needle) else if nat_lt alike shared then Less else Greater)) where
    -- the comparison by lengths is that of the item's key
    pub order_is : order ≡ slice_cmp nat_cmp (kind.key x) needle
    order_is =
        let b = e.before in
        is ∙ order_by_lengths kind list.items ordered e.index at.index e.head x (omega (arith, b)) e.there there needle from rest shared alike e.passed e.shared_is shared_is rest_is

    module _ (seqno : ℕ) (seqno_is : seqno ≡ kind.seqno x) where
      test_is : passes_cmp order from seqno ≡ passes needle from (kind.key x) (kind.seqno x)
      test_is = (λ i. passes_cmp (order_is i) from (seqno_is i))

      -- where the item doesn't pass, the search ends
      pub stops_here : at.index < end → passes_cmp order from seqno ≡ false → at.index ≡ min end (count_passed kind needle from list.items)
      stops_here more stopped =
          let above = not_passed_above kind needle from list.items ordered at.index x there (sym test_is ∙ stopped) in
          let r = e.reached in
          omega (arith, above, r, more)

      -- where it does, the search has reached the next place
      pub goes_on : (next : Place) → at.index < end → passes_cmp order from seqno ≡ true → next.index ≡ at.index + 1 → IsPlaceAfter kind list next (kind.key e.head) → IsEntered kind needle from list next alike end
      goes_on next more passed place_is is_place =
          let below = passed_below kind needle from list.items ordered at.index x there (sym test_is ∙ passed) in
          let b = e.before in
          record {
            index = e.index;
            before = omega (arith, b, place_is);
            head = e.head;
            there = e.there;
            passed = e.passed;
            shared_is = e.shared_is;
            is_place = is_place;
            reached = omega (arith, below, place_is);
            upto = omega (arith, more, place_is);
            inside = e.inside;
            no_head = λ i low high. e.no_head i (omega (arith, low, place_is)) high;
          }
