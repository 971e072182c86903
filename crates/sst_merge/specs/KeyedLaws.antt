-- Entries are ordered by their user keys first.
use Rattle.std.proofs.Common.{◌≡◌, ℕ, ◌-◌, ◌≤◌, true, false, List, [], ◌∷◌, ◌++◌, length, Some, slice_get, nat_eq, ap, sym, ◌∙◌, inl, inr, arith}
use Rattle.std.proofs.lemmas.Bool.{cases_Bool}
use Rattle.std.proofs.lemmas.Bool.Decides.{nat_tests}
use Rattle.std.proofs.lemmas.Grind.{common_steps}
use Rattle.std.specs.Cmp.Lexicographic.{slice_cmp}
use Rattle.std.specs.Ordering.{nat_cmp, ordering_then, is_eq, is_lt}
use Rattle.sstable_blocks.specs.Prelude.{Entry}
use Rattle.sstable_blocks.specs.BlockLaws.{eq_is, lt_is, slice_cmp-equal}
use Rattle.sst_sources.specs.Merge.{entry_cmp}
use Rattle.sst_merge.specs.TableLaws.{last_of}

-- an entry of a lesser user key sorts before the other
pub entry_by_key : (x y : Entry) → is_lt (slice_cmp nat_cmp x.key.user_key y.key.user_key) ≡ true → is_lt (entry_cmp x y) ≡ true
entry_by_key x y less = ap (λ o. is_lt (ordering_then o (nat_cmp y.key.seqno x.key.seqno))) (lt_is (slice_cmp nat_cmp x.key.user_key y.key.user_key) less)

-- keys that differ do not compare as equal
pub not_alike : (a b : List ℕ) → (a ≡ b → ⊥) → is_eq (slice_cmp nat_cmp a b) ≡ false
not_alike a b differ = elim (cases_Bool (is_eq (slice_cmp nat_cmp a b))) [
  | inl same ↦ absurd (differ ((slice_cmp-equal a b).0 (eq_is (slice_cmp nat_cmp a b) same)))
  | inr other ↦ other
]

has_one : (xs : List ℕ) (a : ℕ) → Some a ≡ slice_get xs (length xs - 1) → 1 ≤ length xs
has_one [] a e = absurd (cc)
has_one (x ∷ xs) a e = omega arith

-- joined strings that are the same end with the same byte
pub same_last : (front more bytes other : List ℕ) (a b : ℕ) → Some a ≡ slice_get bytes (length bytes - 1) → Some b ≡ slice_get other (length other - 1) → front ++ bytes ≡ more ++ other → nat_eq a b ≡ true
same_last front more bytes other a b e f is =
    let left = last_of front bytes (has_one bytes a e) in
    let right = last_of more other (has_one other b f) in
    let both : Some a ≡ Some b = e ∙ sym left ∙ ap (λ xs. slice_get xs (length xs - 1)) is ∙ right ∙ sym f in
    let same : a ≡ b = cc in
    grind (arith, common_steps, nat_tests, same)
