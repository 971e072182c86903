-- Searches in ordered lists of entries.
use Rattle.std.proofs.Common.{◌≡◌, ℕ, ◌<◌, ◌≤◌, Bool, true, false, List, length, map, get_or, Some, slice_get, sym, ap, ◌∙◌, inl, inr, arith}
use Rattle.std.proofs.lemmas.Bool.{cases_lt}
use Rattle.std.proofs.lemmas.List.{get_or-map, length-map}
use Rattle.std.proofs.lemmas.Option.{slice_get-get_or}
use Rattle.std.specs.List.{count_by}
use Rattle.sstable_blocks.specs.Prelude.{Entry, entries, IsOrdered}
use Rattle.sstable_blocks.specs.BlockLaws.{versions_cmp_total}
use Rattle.sst_merge.specs.KeyedLaws.{entry_by_key}
use Rattle.sst_sources.specs.Merge.{entry_cmp}
use Rattle.sst_merge.specs.Movable.{is_sought}
use Rattle.sst_merge.proofs.Merging.CutSteps.{Separates, passes_before, fails_after}
use Rattle.sst_merge.proofs.Moving.MovableLaws.{below_apart, most_apart}

abbrev user_key : Entry → List ℕ
user_key e = e.key.user_key

pub sought_apart : (needle : List ℕ) (at_most : Bool) → Separates entry_cmp (is_sought (λ (e : Entry). e.key.user_key) needle at_most)
sought_apart needle false = below_apart entry_cmp user_key entry_by_key needle
sought_apart needle true = most_apart entry_cmp user_key entry_by_key needle

module _ {T : Type 0} (entry : T → Entry) (items : List T) (needle : List ℕ) (at_most : Bool) (up : IsOrdered entries (map entry items)) (mid : ℕ) (x : T) (inside : mid < length items) (is : x ≡ get_or items mid x) where
  there : slice_get (map entry items) mid ≡ Some (entry x)
  there =
      (let n = length-map items entry in slice_get-get_or (map entry items) mid (entry x) (omega (arith, n, inside)))
      ∙ ap Some (get_or-map entry items mid x (entry x) inside ∙ ap entry (sym is))

  pub more_passed : is_sought (λ (e : Entry). e.key.user_key) needle at_most (entry x) ≡ true → mid < count_by (is_sought (λ (e : Entry). e.key.user_key) needle at_most) (map entry items)
  more_passed yes_ = elim (cases_lt mid (count_by (is_sought (λ (e : Entry). e.key.user_key) needle at_most) (map entry items))) [
    | inl less ↦ less
    | inr more ↦ absurd (let e = fails_after entry_cmp (versions_cmp_total entries.key entries.seqno) (is_sought (λ (e : Entry). e.key.user_key) needle at_most) (sought_apart needle at_most) (map entry items) mid (entry x) up there more in cc)
  ]

  pub none_passed : is_sought (λ (e : Entry). e.key.user_key) needle at_most (entry x) ≡ false → count_by (is_sought (λ (e : Entry). e.key.user_key) needle at_most) (map entry items) ≤ mid
  none_passed no_ = elim (cases_lt mid (count_by (is_sought (λ (e : Entry). e.key.user_key) needle at_most) (map entry items))) [
    | inr more ↦ more
    | inl less ↦ absurd (let e = passes_before entry_cmp (versions_cmp_total entries.key entries.seqno) (is_sought (λ (e : Entry). e.key.user_key) needle at_most) (sought_apart needle at_most) (map entry items) mid (entry x) up there less in cc)
  ]
