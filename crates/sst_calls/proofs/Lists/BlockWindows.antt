-- Windows over the joined blocks of a list: what is between two places of the blocks.
use Rattle.std.proofs.Common.{◌≡◌, ◌∙◌, ℕ, zero, suc, ◌+◌, ◌-◌, ◌≤◌, ◌<◌, List, [], ◌∷◌, ◌++◌, length, take, drop, sym, ap, arith, inl, inr, Some, append_assoc, length-drop}
use Rattle.std.specs.Prelude.{slice_get, ◌⊎◌}
use Rattle.std.proofs.Math.Seq.{take-add, drop-append-add}
use Rattle.std.proofs.lemmas.Bool.{cases_lt}
use Rattle.std.proofs.lemmas.List.{drop-append-le, take-append-le, take_all, drop-drop}
use Rattle.sstable_blocks.specs.Prelude.{items_left}
use Rattle.sstable_blocks.specs.Blocks.{joined}
use Rattle.sstable_blocks.specs.JoinedLaws.{before_le, before_next}

-- the items between two indexes of a list
abbrev pub between : {X : Type 0} → List X → ℕ → ℕ → List X
between list lo hi = items_left (record { list = list; lo = lo; hi = hi })

-- those up to an index between, and those from there on
pub split_between : {X : Type 0} (list : List X) (lo mid hi : ℕ) → lo ≤ mid → mid ≤ hi → between list lo hi ≡ between list lo mid ++ between list mid hi
split_between list lo mid hi first second =
    let sum : hi - lo ≡ (mid - lo) + (hi - mid) = omega (arith, first, second) in
    let there : lo + (mid - lo) ≡ mid = omega (arith, first) in
    ap (λ n. take n (drop lo list)) sum ∙ take-add (mid - lo) (hi - mid) (drop lo list)
    ∙ ap (λ (xs : List _). take (mid - lo) (drop lo list) ++ take (hi - mid) xs) (drop-drop (mid - lo) lo list ∙ ap (λ n. drop n list) there)

-- between the same index twice there is none
pub between_none : {X : Type 0} (list : List X) (lo hi : ℕ) → hi ≤ lo → between list lo hi ≡ []
between_none list lo hi less = let none : hi - lo ≡ 0 = omega (arith, less) in ap (λ n. take n (drop lo list)) none

-- a list of blocks, joined, is what is before a block, the block, and what is after it
pub joined_at : {X : Type 0} (blocks : List (List X)) (b : ℕ) (xs : List X) → slice_get blocks b ≡ Some xs → joined blocks ≡ joined (take b blocks) ++ (xs ++ joined (drop (suc b) blocks))
joined_at [] b xs at = absurd (cc)
joined_at (x ∷ blocks) zero xs at = let same : x ≡ xs = cc (at) in ap (λ v. v ++ joined blocks) same
joined_at (x ∷ blocks) (suc b) xs at =
    ap (λ v. x ++ v) (joined_at blocks b xs at) ∙ sym (append_assoc x (joined (take b blocks)) (xs ++ joined (drop (suc b) blocks)))

-- the items between two places of one block
pub within_block : {X : Type 0} (blocks : List (List X)) (b i t : ℕ) (xs : List X) → slice_get blocks b ≡ Some xs → i ≤ t → t ≤ length xs
    → between (joined blocks) (length (joined (take b blocks)) + i) (length (joined (take b blocks)) + t) ≡ between xs i t
within_block blocks b i t xs at less inside =
    let before = joined (take b blocks) in
    let rest = joined (drop (suc b) blocks) in
    let n = length before in
    let size : (n + t) - (n + i) ≡ t - i = omega arith in
    let fits : t - i ≤ length (drop i xs) = omega (arith, length-drop i xs, inside) in
    ap (λ k. take k (drop (n + i) (joined blocks))) size
    ∙ ap (λ (v : List _). take (t - i) (drop (n + i) v)) (joined_at blocks b xs at)
    ∙ ap (λ (v : List _). take (t - i) v) (drop-append-add before (xs ++ rest) i ∙ drop-append-le i xs rest (omega (arith, less, inside)))
    ∙ take-append-le (t - i) (drop i xs) rest fits

-- a place is not after the end where its block, or its index in the same block, is not
pub place_rises : {X : Type 0} (blocks : List (List X)) (b i c j : ℕ) (xs : List X) → slice_get blocks b ≡ Some xs → i ≤ length xs → (b < c) ⊎ ((b ≡ c) × (i ≤ j))
    → length (joined (take b blocks)) + i ≤ length (joined (take c blocks)) + j
place_rises blocks b i c j xs at inside (inl less) =
    let next = before_next blocks b xs at in
    let up = before_le blocks (suc b) c (omega (arith, less)) in
    omega (arith, next, up, inside)
place_rises blocks b i c j xs at inside (inr same) =
    let n = ap (λ k. length (joined (take k blocks))) same.0 in
    omega (arith, n, same.1)

-- the item at an index, and those after it
from_place : {X : Type 0} (xs : List X) (i : ℕ) (x : X) → slice_get xs i ≡ Some x → drop i xs ≡ x ∷ drop (suc i) xs
from_place [] i x at = absurd (cc)
from_place (y ∷ xs) zero x at = let same : y ≡ x = cc (at) in ap (λ v. v ∷ xs) same
from_place (y ∷ xs) (suc i) x at = from_place xs i x at

pub between_front : {X : Type 0} (xs : List X) (i hi : ℕ) (x : X) → slice_get xs i ≡ Some x → i < hi → between xs i hi ≡ x ∷ between xs (suc i) hi
between_front xs i hi x at less =
    let size : hi - i ≡ suc (hi - suc i) = omega (arith, less) in
    ap (λ n. take n (drop i xs)) size ∙ ap (λ (v : List _). take (suc (hi - suc i)) v) (from_place xs i x at)

-- those up to an index, and the item there
pub between_push : {X : Type 0} (xs : List X) (from i : ℕ) (x : X) → from ≤ i → slice_get xs i ≡ Some x → between xs from (i + 1) ≡ between xs from i ++ x ∷ []
between_push xs from i x less at =
    split_between xs from i (i + 1) less (omega arith)
    ∙ ap (λ (v : List _). between xs from i ++ v) (between_front xs i (i + 1) x at (omega arith) ∙ ap (λ (v : List _). x ∷ v) (between_none xs (suc i) (i + 1) (omega arith)))

-- before the end of the last block are all
pub all_before : {X : Type 0} (blocks : List (List X)) (b : ℕ) (xs : List X) → slice_get blocks b ≡ Some xs → suc b ≡ length blocks → length (joined (take b blocks)) + length xs ≡ length (joined blocks)
all_before blocks b xs at last =
    let all = ap (λ (v : List (List _)). length (joined v)) (take_all (suc b) blocks (omega (arith, last))) in
    omega (arith, before_next blocks b xs at, all)

-- of two places the first is not after the second, where the second is not up to the first
pub place_falls : {X : Type 0} (blocks : List (List X)) (b i c j : ℕ) (xs : List X) → slice_get blocks c ≡ Some xs → j ≤ length xs → ((b < c) ⊎ ((b ≡ c) × (i ≤ j)) → ⊥)
    → length (joined (take c blocks)) + j ≤ length (joined (take b blocks)) + i
place_falls blocks b i c j xs at inside crossed = elim (cases_lt c b) [
  | inl less ↦ place_rises blocks c j b i xs at inside (inl less)
  | inr more ↦ elim (cases_lt b c) [
    | inl past ↦ absurd (crossed (inl past))
    | inr back ↦ elim (cases_lt j i) [
      | inl behind ↦ place_rises blocks c j b i xs at inside (inr (omega (arith, more, back), omega (arith, behind)))
      | inr before ↦ absurd (crossed (inr (omega (arith, more, back), before)))
    ]
  ]
]
