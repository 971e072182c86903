-- Laws of compactions for several snapshots, over entries and over levels.
use Rattle.std.proofs.Common.{◌≡◌, ℕ, Bool, true, false, cond, List, filter, slice_get, Option, Some, None, sym, ap, ◌∙◌, inl, inr, ◌⊎◌}
use Rattle.std.specs.Option.{option_map}
use Rattle.sstable_blocks.specs.Prelude.{Entry, plain, entries, IsOrdered, first_match, is_version, is_tombstone}
use Rattle.sst_merge.specs.CompactLaws.{compact-first_match}
use Rattle.sst_merge.specs.Compact.{IsKeptRead, compacted}
use Rattle.sst_merge.specs.Snapshot.{seen}

-- the first match stays, or it was a tombstone at the bottom of its key, and none is left
abbrev pub IsStillOrGone : Bool → Option Entry → Option Entry → Type 0
IsStillOrGone bottom a b = (a ≡ b) ⊎ ((a ≡ None) × ((x : Entry) × (b ≡ Some x) × (is_tombstone x.key.value_type ≡ true) × (bottom ≡ true)))

module _ (ss : List ℕ) (bottom : List ℕ → Bool) (needle : List ℕ) (r : ℕ) (items : List Entry) (read : IsKeptRead ss r) (up : IsOrdered entries items) where
  abbrev left : List Entry
  left = compacted (λ (e : Entry). e) ss bottom items

  decoded : (a b : Option Entry) → IsStillOrGone (bottom needle) a b → IsStillOrGone (bottom needle) (option_map plain a) (option_map plain b)
  decoded a b (inl same) = inl (ap (option_map plain) same)
  decoded a b (inr gone) = inr (ap (option_map plain) gone.0, (plain gone.1.0, ap (option_map plain) gone.1.1, gone.1.2, gone.1.3))

  pub still_or_gone : IsStillOrGone (bottom needle) (first_match entries needle r left) (first_match entries needle r items)
  unfolding first_match
  still_or_gone = decoded (slice_get (filter (is_version entries needle r) left) 0) (slice_get (filter (is_version entries needle r) items) 0) (compact-first_match (λ (e : Entry). e) ss bottom needle r read items up)

  above_by : (a b : Option Entry) → IsStillOrGone (bottom needle) a b → bottom needle ≡ false → a ≡ b
  above_by a b (inl same) h = same
  above_by a b (inr gone) h = absurd (let f : true ≡ false = sym gone.1.3 ∙ h in cc)

  -- where older versions of the key may be elsewhere, the first match stays, tombstones too
  pub above_match : bottom needle ≡ false → first_match entries needle r left ≡ first_match entries needle r items
  above_match h = above_by (first_match entries needle r left) (first_match entries needle r items) still_or_gone h

  seen_by : (a b : Option Entry) → IsStillOrGone (bottom needle) a b → seen a ≡ seen b
  seen_by a b (inl same) = ap seen same
  seen_by a b (inr gone) = ap seen gone.0 ∙ sym (ap seen gone.1.1 ∙ ap (λ t. cond t None (Some gone.1.0)) gone.1.2)

  -- at the bottom a reader sees the same
  pub seen_match : seen (first_match entries needle r left) ≡ seen (first_match entries needle r items)
  seen_match = seen_by (first_match entries needle r left) (first_match entries needle r items) still_or_gone
