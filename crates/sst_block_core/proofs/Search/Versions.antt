-- The result of a search is the first match: the first item of a key below a sequence number.
use Rattle.std.proofs.Common.{◌≡◌, ℕ, ◌+◌, ◌*◌, ◌<◌, ◌≤◌, inl, inr, min, List, length, filter, Option, Some, None, MatchOption, false, subst, arith}
use Rattle.std.specs.List.{slice_get}
use Rattle.std.specs.Option.{option_map}
use Rattle.std.specs.Ordering.{nat_cmp, is_eq}
use Rattle.std.specs.Cmp.Lexicographic.{slice_cmp}
use Rattle.std.proofs.lemmas.Bool.{cases_lt}
use Rattle.sst_block_core.specs.Kind.{Kind, IsOrdered}
use Rattle.sst_block_core.specs.Scan.{Listed}
use Rattle.sst_block_core.specs.Window.{count_passed, is_version}
use Rattle.sst_block_core.specs.Intervals.{IsFoundAt}
use Rattle.sst_block_core.proofs.Search.FirstMatches.{stops_at, none_at, none_between}

module _ {X P : Type 0} (item_of : List ℕ → P → X) (is_found : List ℕ → P → Type 0) (kind : Kind X) (needle : List ℕ) (seqno : ℕ) (list : Listed X) (ordered : IsOrdered kind list.items) (place : ℕ) where
  count : ℕ
  count = count_passed kind needle (Some seqno) list.items

  found_at : (p : P) → place ≡ count → IsFoundAt item_of is_found kind needle list place p → Some (item_of list.payload p) ≡ slice_get (filter (is_version kind needle seqno) list.items) 0
  unfolding count
  found_at p is found = stops_at kind needle seqno list.items ordered (item_of list.payload p) (subst (λ n. slice_get list.items n ≡ Some (item_of list.payload p)) is found.there) found.same_key

  none_there : place ≡ count → ((x : X) → slice_get list.items place ≡ Some x → is_eq (slice_cmp nat_cmp (kind.key x) needle) ≡ false) → None ≡ slice_get (filter (is_version kind needle seqno) list.items) 0
  unfolding count
  none_there is other = none_at kind needle seqno list.items ordered (subst (λ n. (x : X) → slice_get list.items n ≡ Some x → is_eq (slice_cmp nat_cmp (kind.key x) needle) ≡ false) is other)

  -- of a search in the whole list
  pub version_found : (r : Option P) → place ≡ count_passed kind needle (Some seqno) list.items
      → MatchOption r ((x : X) → slice_get list.items place ≡ Some x → is_eq (slice_cmp nat_cmp (kind.key x) needle) ≡ false) (IsFoundAt item_of is_found kind needle list place)
      → option_map (item_of list.payload) r ≡ slice_get (filter (is_version kind needle seqno) list.items) 0
  unfolding count
  version_found None is m = none_there is m
  version_found (Some p) is m = found_at p is m

  -- of a search in the interval where all items with the key are
  pub version_found_in : (r : Option P) (j end : ℕ) → end ≡ min (length list.items) ((j + 1) * list.interval) → place ≡ min end (count_passed kind needle (Some seqno) list.items)
      → ((i : ℕ) (x : X) → slice_get list.items i ≡ Some x → kind.key x ≡ needle → (j * list.interval ≤ i) × (i < (j + 1) * list.interval))
      → MatchOption r ((x : X) → place < end → slice_get list.items place ≡ Some x → is_eq (slice_cmp nat_cmp (kind.key x) needle) ≡ false) (λ p. IsFoundAt item_of is_found kind needle list place p × (place < end))
      → option_map (item_of list.payload) r ≡ slice_get (filter (is_version kind needle seqno) list.items) 0
  unfolding count
  version_found_in (Some p) j end end_is is alone m = let less = m.1 in found_at p (omega (arith, is, less)) m.0
  version_found_in None j end end_is is alone m = elim (cases_lt (count_passed kind needle (Some seqno) list.items) end) [
    | inl less ↦
        (let here : place ≡ count_passed kind needle (Some seqno) list.items = omega (arith, is, less) in
        none_there here (λ x at. m x (omega (arith, here, less)) at))
    | inr past ↦ none_between kind needle seqno list.items ordered (j * list.interval) ((j + 1) * list.interval) alone end
        (elim (cases_lt (length list.items) ((j + 1) * list.interval)) [ inl short ↦ inl (omega (arith, end_is, short)) | inr long ↦ inr (omega (arith, end_is, long)) ])
        past
  ]
