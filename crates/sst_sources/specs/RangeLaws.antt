-- Laws of the entries within a range of user keys.
use Rattle.std.proofs.Common.{◌≡◌, ℕ, Bool, true, false, cond, List, [], ◌∷◌, filter, slice_get, Option, Some, None, refl, sym, ap, subst, ◌∙◌, inl, inr}
use Rattle.std.proofs.lemmas.Bool.{cases_Bool}
use Rattle.std.specs.Cmp.{IsTotalOrder}
use Rattle.std.specs.Prelude.{nat_lt}
use Rattle.std.specs.Cmp.Lexicographic.{slice_cmp}
use Rattle.std.specs.List.{AllByRecursion}
use Rattle.std.specs.Option.{option_map, IfSome}
use Rattle.std.specs.Ordering.{nat_cmp, is_eq}
use Rattle.std.specs.declared.cmp.Ordering.{Ordering}
use Rattle.sstable_blocks.specs.Prelude.{Entry, plain, IsInOrder, entries, IsOrdered, first_match, is_version}
use Rattle.sstable_blocks.specs.BlockLaws.{versions_cmp_total, keys_equal, and_parts}
use Rattle.sst_sources.specs.MergeReads.{ge_trans}
use Rattle.sst_sources.specs.Ranges.{covers, ranged}
use Rattle.sstable_blocks.specs.EndLaws.{tail_in_order}

module _ {X : Type 0} (test : X → Bool) where
  pub filter_hit : (x : X) (xs : List X) → test x ≡ true → filter test (x ∷ xs) ≡ x ∷ filter test xs
  filter_hit x xs h = ap (λ b. cond b (x ∷ filter test xs) (filter test xs)) h

  pub filter_miss : (x : X) (xs : List X) → test x ≡ false → filter test (x ∷ xs) ≡ filter test xs
  filter_miss x xs h = ap (λ b. cond b (x ∷ filter test xs) (filter test xs)) h

  -- a test that all pass
  pub filter_all : (xs : List X) → AllByRecursion (λ x. test x ≡ true) xs → filter test xs ≡ xs
  filter_all [] all = refl
  filter_all (x ∷ xs) all = filter_hit x xs all.0 ∙ ap (λ ys. x ∷ ys) (filter_all xs all.1)

module _ {X : Type 0} (test within : X → Bool) where
  -- what passes one test passes the other
  filter_both : ((x : X) → test x ≡ true → within x ≡ true) → (xs : List X) → filter test (filter within xs) ≡ filter test xs
  filter_both imp [] = refl
  filter_both imp (x ∷ xs) = elim (cases_Bool (within x)) [
    | inl inside ↦ ap (filter test) (filter_hit within x xs inside) ∙ elim (cases_Bool (test x)) [
      | inl hit ↦ filter_hit test x (filter within xs) hit ∙ ap (λ ys. x ∷ ys) (filter_both imp xs) ∙ sym (filter_hit test x xs hit)
      | inr miss ↦ filter_miss test x (filter within xs) miss ∙ filter_both imp xs ∙ sym (filter_miss test x xs miss)
    ]
    | inr outside ↦ ap (filter test) (filter_miss within x xs outside) ∙ filter_both imp xs ∙ elim (cases_Bool (test x)) [
      | inl hit ↦ absurd (let e : true ≡ false = sym (imp x hit) ∙ outside in cc)
      | inr miss ↦ sym (filter_miss test x xs miss)
    ]
  ]

  -- what passes one test fails the other
  filter_none : ((x : X) → test x ≡ true → within x ≡ false) → (xs : List X) → filter test (filter within xs) ≡ []
  filter_none imp [] = refl
  filter_none imp (x ∷ xs) = elim (cases_Bool (within x)) [
    | inr outside ↦ ap (filter test) (filter_miss within x xs outside) ∙ filter_none imp xs
    | inl inside ↦ ap (filter test) (filter_hit within x xs inside) ∙ elim (cases_Bool (test x)) [
      | inl hit ↦ absurd (let e : true ≡ false = sym inside ∙ imp x hit in cc)
      | inr miss ↦ filter_miss test x (filter within xs) miss ∙ filter_none imp xs
    ]
  ]

module _ {X : Type 0} (cmp : X → X → Ordering) (order : IsTotalOrder cmp) (test : X → Bool) where
  skip : (l x : X) (xs : List X) → IsInOrder cmp (l ∷ x ∷ xs) → IsInOrder cmp (l ∷ xs)
  skip l x [] up = tt
  skip l x (y ∷ ys) up = (ge_trans cmp order y x l up.1.0 up.0, up.1.1)

  behind : (l : X) (xs : List X) → IsInOrder cmp (l ∷ xs) → IsInOrder cmp (l ∷ filter test xs)
  behind l [] up = tt
  behind l (x ∷ xs) up = elim (cases_Bool (test x)) [
    | inl hit ↦ rw (filter_hit test x xs hit) (up.0, behind x xs up.1)
    | inr miss ↦ rw (filter_miss test x xs miss) (behind l xs (skip l x xs up))
  ]

  -- what passes a test is in order where all is
  pub filter_ordered : (xs : List X) → IsInOrder cmp xs → IsInOrder cmp (filter test xs)
  filter_ordered [] up = tt
  filter_ordered (x ∷ xs) up = elim (cases_Bool (test x)) [
    | inl hit ↦ rw (filter_hit test x xs hit) (behind x xs up)
    | inr miss ↦ rw (filter_miss test x xs miss) (filter_ordered xs (tail_in_order cmp x xs up))
  ]

pub ranged_ordered : (first last : List ℕ) (items : List Entry) → IsOrdered entries items → IsOrdered entries (ranged first last items)
ranged_ordered first last items up = filter_ordered _ (versions_cmp_total entries.key entries.seqno) (λ (e : Entry). covers first last e.key.user_key) items up

-- keys that are all within the range
pub ranged_all : (first last : List ℕ) (items : List Entry) → AllByRecursion (λ (e : Entry). covers first last e.key.user_key ≡ true) items → ranged first last items ≡ items
ranged_all first last items all = filter_all (λ (e : Entry). covers first last e.key.user_key) items all

-- a version of a key has the key
pub version_key : (needle : List ℕ) (s : ℕ) (e : Entry) → is_version entries needle s e ≡ true → e.key.user_key ≡ needle
version_key needle s e h = keys_equal e.key.user_key needle (and_parts (nat_lt e.key.seqno s) (is_eq (slice_cmp nat_cmp e.key.user_key needle)) h).1

module _ (first last needle : List ℕ) (s : ℕ) where
  -- a read of a key within the range
  pub ranged_match : (items : List Entry) → covers first last needle ≡ true → first_match entries needle s (ranged first last items) ≡ first_match entries needle s items
  unfolding first_match
  ranged_match items h = ap (λ xs. option_map plain (slice_get xs 0)) (filter_both (is_version entries needle s) (λ (e : Entry). covers first last e.key.user_key) (λ e v. ap (covers first last) (version_key needle s e v) ∙ h) items)

  -- and of one outside
  pub ranged_miss : (items : List Entry) → covers first last needle ≡ false → first_match entries needle s (ranged first last items) ≡ None
  unfolding first_match
  ranged_miss items h = ap (λ xs. option_map plain (slice_get xs 0)) (filter_none (is_version entries needle s) (λ (e : Entry). covers first last e.key.user_key) (λ e v. ap (covers first last) (version_key needle s e v) ∙ h) items)

pub ranged_if_ordered : (first last : List ℕ) (o : Option (List Entry)) → IfSome o (IsOrdered entries) → IfSome (option_map (ranged first last) o) (IsOrdered entries)
ranged_if_ordered first last None h = tt
ranged_if_ordered first last (Some items) h = ranged_ordered first last items h

-- what a read finds, of a key within the range and of one outside
pub found_inside : (first last needle : List ℕ) (s : ℕ) (o : Option (List Entry)) (F : Option Entry → Type 0) → covers first last needle ≡ true → IfSome o (λ all. F (first_match entries needle s all))
    → IfSome (option_map (ranged first last) o) (λ all. F (first_match entries needle s all))
found_inside first last needle s None F h e = tt
found_inside first last needle s (Some items) F h e = subst F (sym (ranged_match first last needle s items h)) e

pub none_outside : (first last needle : List ℕ) (s : ℕ) (o : Option (List Entry)) → covers first last needle ≡ false → IfSome (option_map (ranged first last) o) (λ all. None ≡ first_match entries needle s all)
none_outside first last needle s None h = tt
none_outside first last needle s (Some items) h = sym (ranged_miss first last needle s items h)

-- where all keys are within the range
pub ranged_whole : (first last : List ℕ) (o : Option (List Entry)) → IfSome o (λ all. AllByRecursion (λ (e : Entry). covers first last e.key.user_key ≡ true) all → option_map (ranged first last) o ≡ Some all)
ranged_whole first last None = tt
ranged_whole first last (Some items) = λ all. ap Some (ranged_all first last items all)
