-- A tournament of sources: at each place stands the source that goes first of those that stand after it.
use Rattle.std.specs.Prelude.{◌≡◌, ℕ, zero, suc, ◌+◌, ◌*◌, ◌/◌, ◌<◌, ◌≤◌, ◌⊎◌, List, length, map, Option, Some, None, true, slice_index}
use Rattle.std.proofs.Math.ListN.{get_or}
use Rattle.std.proofs.Common.{nat_lt}
use Rattle.std.specs.declared.cmp.Ordering.{Ordering}
use Rattle.sst_sources.specs.Picks.{goes}
use Rattle.sst_sources.specs.Sources.{Left}

-- the list of a source, where it is known
abbrev pub known_list : {X : Type 0} → List (Left X) → ℕ → Option (List X)
known_list {X = X} lefts i = get_or (map (λ (s : Left X). s.list) lefts) i None

-- one source goes before another, or is that one
abbrev pub Leads : {X : Type 0} → (X → X → Ordering) → List (Left X) → ℕ → ℕ → Type 0
Leads {X = X} cmp lefts i j = (xs ys : List X) → known_list lefts i ≡ Some xs → known_list lefts j ≡ Some ys → goes cmp (nat_lt j i) xs ys ≡ true

-- of two sources this one goes first
pub record IsFirstOf {X : Type 0} (cmp : X → X → Ordering) (lefts : List (Left X)) (i j first : ℕ) : Type 0 where
  pub inside : first < length lefts
  pub one : (first ≡ i) ⊎ (first ≡ j)
  pub before_i : Leads cmp lefts first i
  pub before_j : Leads cmp lefts first j

-- the place that one is reached from by so many steps; a step goes from a place to half of it, rounded down
abbrev pub halved : ℕ → ℕ → ℕ
halved zero place = place
halved (suc steps) place = halved steps (place / 2)

-- a place is another one, or one of those that are passed on the way from it to place 1
pub record IsOnWay (place from : ℕ) : Type 0 where
  pub steps : ℕ
  pub is : halved steps from ≡ place

-- Of n sources, source i stands at place n + i, and at each place from 1 to n - 1 that is not stale the one of the
-- sources at places 2 k and 2 k + 1 that goes first.
pub record AreWinners {X : Type 0} (cmp : X → X → Ordering) (lefts : List (Left X)) (places : List ℕ) (IsStale : ℕ → Type 0) : Type 0 where
  pub size : length places ≡ length lefts + length lefts
  pub last : (i : ℕ) → i < length lefts → slice_index places (length lefts + i) ≡ i
  pub inside : (k : ℕ) → k < length lefts → slice_index places k < length lefts
  pub first : (k : ℕ) → 1 ≤ k → k < length lefts → (IsStale k → ⊥) → IsFirstOf cmp lefts (slice_index places (2 * k)) (slice_index places (2 * k + 1)) (slice_index places k)

-- the places of a tournament that are stale are those above this one, where it is not 0
pub record IsTournament {X : Type 0} (cmp : X → X → Ordering) (lefts : List (Left X)) (places : List ℕ) (stale : ℕ) : Type 0 where
  pub stale_inside : stale < length lefts
  pub places_are : AreWinners cmp lefts places (λ k. IsOnWay k stale)

-- a tournament, or none yet
abbrev pub MayBeTournament : {X : Type 0} → (X → X → Ordering) → List (Left X) → List ℕ → ℕ → Type 0
MayBeTournament cmp lefts places stale = 0 < length places → IsTournament cmp lefts places stale

-- the places of so many sources, of which the last ones alone are made
pub record AreSeats (count : ℕ) (places : List ℕ) : Type 0 where
  pub size : length places ≡ count + count
  pub first : (k : ℕ) → k < count → slice_index places k ≡ 0
  pub last : (i : ℕ) → i < count → slice_index places (count + i) ≡ i
