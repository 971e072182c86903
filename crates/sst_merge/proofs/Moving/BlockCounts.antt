-- A search for a user key in a list in blocks is one in the block at which a search over the blocks' last entries stops.
use Rattle.std.proofs.Common.{◌≡◌, ℕ, zero, suc, ◌+◌, ◌<◌, ◌≤◌, Bool, true, false, List, [], ◌∷◌, ◌++◌, length, take, Some, None, slice_get, refl, sym, ap, ◌∙◌, inl, inr, arith, length-append}
use Rattle.std.proofs.lemmas.Bool.{cases_Bool, cases_lt}
use Rattle.std.proofs.lemmas.List.Sums.{count_by-le-length}
use Rattle.std.specs.Cmp.Lexicographic.{slice_cmp}
use Rattle.std.specs.List.{AllByRecursion, count_by}
use Rattle.std.specs.Ordering.{nat_cmp}
use Rattle.sstable_blocks.specs.Prelude.{Entry, entries, IsOrdered, passes, count_passed}
use Rattle.sstable_blocks.specs.BlockLaws.{versions_cmp_total, some_is}
use Rattle.sstable_blocks.specs.Blocks.{IsNotEmpty, joined}
use Rattle.sst_sources.specs.Merge.{entry_cmp}
use Rattle.sst_merge.specs.Movable.{is_sought, item_before}
use Rattle.sst_merge.specs.MovableBlocks.{AreEntryBlocks, entry_key, entries_before, is_last_sought, is_block_sought}
use Rattle.sstable_blocks.specs.JoinedLaws.{before_none}
use Rattle.sst_merge.proofs.Moving.BlockPlaces.{after_append, before_append}
use Rattle.sst_merge.proofs.Merging.CutSteps.{count_yes, count_no, fails_after, passes_before}
use Rattle.sst_merge.proofs.Moving.SortedCounts.{sought_apart}
use Rattle.sstable_blocks.specs.BoundLaws.{below_is, count_same, up_to_is}
use Rattle.sstable_blocks.specs.EndLaws.{back_in_order, front_in_order}

module _ {X : Type 0} (test : X → Bool) where
  pub count_append : (xs ys : List X) → count_by test (xs ++ ys) ≡ count_by test xs + count_by test ys
  count_append [] ys = omega arith
  count_append (x ∷ xs) ys = elim (cases_Bool (test x)) [
    | inl passed ↦ (let a = count_yes test x (xs ++ ys) passed in let b = count_yes test x xs passed in let c = count_append xs ys in omega (arith, a, b, c))
    | inr failed ↦ (let a = count_no test x (xs ++ ys) failed in let b = count_no test x xs failed in let c = count_append xs ys in omega (arith, a, b, c))
  ]

  -- an item that passes is counted
  counted : (xs : List X) (i : ℕ) (x : X) → slice_get xs i ≡ Some x → test x ≡ true → 0 < count_by test xs
  counted [] i x at passed = absurd (cc)
  counted (z ∷ xs) zero x at passed = (let e : z ≡ x = some_is z x at in let a = count_yes test z xs (ap test e ∙ passed) in omega (arith, a))
  counted (z ∷ xs) (suc i) x at passed = elim (cases_Bool (test z)) [
    | inl here ↦ (let a = count_yes test z xs here in omega (arith, a))
    | inr other ↦ (let a = count_no test z xs other in let b = counted xs i x at passed in omega (arith, a, b))
  ]

module _ {X : Type 0} (test : X → Bool) where
  -- none passes
  all_fail : (xs : List X) → ((j : ℕ) (x : X) → slice_get xs j ≡ Some x → test x ≡ false) → count_by test xs ≡ 0
  all_fail [] h = refl
  all_fail (x ∷ xs) h = count_no test x xs (h zero x refl) ∙ all_fail xs (λ j y at. h (suc j) y at)

module _ (needle : List ℕ) (at_most : Bool) where
  abbrev test : Entry → Bool
  test = is_sought entry_key needle at_most

  abbrev ends : List Entry → Bool
  ends = is_block_sought needle at_most

  -- the last of a block
  pub record HasLast (xs : List Entry) : Type 0 where
    pub n : ℕ
    pub size : length xs ≡ suc n
    pub last : Entry
    pub at : slice_get xs n ≡ Some last
    pub ends_is : ends xs ≡ test last

  last_of : (xs : List Entry) → IsNotEmpty xs → HasLast xs
  last_of [] some = absurd (omega (arith, some))
  last_of (x ∷ xs) some =
      let there = item_at_end (x ∷ xs) (length xs) (omega arith) in
      record {
        n = length xs;
        size = omega arith;
        last = there.0;
        at = there.1;
        ends_is = ap (λ o. is_last_sought needle at_most o) (ap (item_before (x ∷ xs)) (let e : length (x ∷ xs) ≡ suc (length xs) = omega arith in e) ∙ there.1);
      }
    where
      item_at_end : (xs : List Entry) (a : ℕ) → a < length xs → (y : Entry) × (slice_get xs a ≡ Some y)
      item_at_end [] a h = absurd (omega (arith, h))
      item_at_end (x ∷ xs) zero h = (x, refl)
      item_at_end (x ∷ xs) (suc a) h = item_at_end xs a (omega (arith, h))

  abbrev fails : (xs : List Entry) (a : ℕ) (x : Entry) → IsOrdered entries xs → slice_get xs a ≡ Some x → count_by test xs ≤ a → test x ≡ false
  fails = fails_after entry_cmp (versions_cmp_total entries.key entries.seqno) test (sought_apart needle at_most)

  abbrev passes_all : (xs : List Entry) (a : ℕ) (x : Entry) → IsOrdered entries xs → slice_get xs a ≡ Some x → a < count_by test xs → test x ≡ true
  passes_all = passes_before entry_cmp (versions_cmp_total entries.key entries.seqno) test (sought_apart needle at_most)

  -- where the last entry passes all do, and where it does not, none does after it
  pub all_pass : (xs : List Entry) → IsOrdered entries xs → (l : HasLast xs) → test l.last ≡ true → count_by test xs ≡ length xs
  all_pass xs up l passed = elim (cases_lt l.n (count_by test xs)) [
    | inl less ↦ (let n = count_by-le-length test xs in let s = l.size in omega (arith, n, s, less))
    | inr more ↦ absurd (let e = fails xs l.n l.last up l.at more in cc)
  ]

  pub not_all : (xs : List Entry) → IsOrdered entries xs → (l : HasLast xs) → test l.last ≡ false → count_by test xs < length xs
  not_all xs up l failed = elim (cases_lt (count_by test xs) (length xs)) [
    | inl less ↦ less
    | inr more ↦ absurd (let s = l.size in let e = passes_all xs l.n l.last up l.at (omega (arith, s, more)) in cc)
  ]

  none_behind : (xs ys : List Entry) → IsOrdered entries (xs ++ ys) → (l : HasLast xs) → test l.last ≡ false → (j : ℕ) (y : Entry) → slice_get ys j ≡ Some y → test y ≡ false
  none_behind xs ys up l failed j y at =
      fails (xs ++ ys) (length xs + j) y up (after_append xs ys j ∙ at) (elim (cases_lt l.n (count_by test (xs ++ ys))) [
        | inl less ↦ absurd (let e = passes_all (xs ++ ys) l.n l.last up (before_append xs ys l.n l.last l.at) less in cc)
        | inr more ↦ (let s = l.size in omega (arith, more, s))
      ])

  -- the blocks after one that is not passed
  abbrev NoneIn : List (List Entry) → Type 0
  NoneIn bs = (j : ℕ) (y : Entry) → slice_get (joined bs) j ≡ Some y → test y ≡ false

  no_ends : (bs : List (List Entry)) → AllByRecursion IsNotEmpty bs → NoneIn bs → count_by ends bs ≡ 0
  no_ends [] some none = refl
  no_ends (x ∷ bs) some none =
      let l = last_of x some.0 in
      let failed : ends x ≡ false = l.ends_is ∙ none l.n l.last (before_append x (joined bs) l.n l.last l.at) in
      count_no ends x bs failed ∙ no_ends bs some.1 (λ j y at. none (length x + j) y (after_append x (joined bs) j ∙ at))

  rest_blocks : (x : List Entry) (bs : List (List Entry)) → AreEntryBlocks (x ∷ bs) → AreEntryBlocks bs
  rest_blocks x bs all = record { ordered = back_in_order entry_cmp x (joined bs) all.ordered; some = all.some.1 }

  none_after_block : (x : List Entry) (bs : List (List Entry)) → AreEntryBlocks (x ∷ bs) → ends x ≡ false → NoneIn bs
  none_after_block x bs all failed = (let l = last_of x all.some.0 in none_behind x (joined bs) all.ordered l (sym l.ends_is ∙ failed))

  none_passed_after : (x : List Entry) (bs : List (List Entry)) → AreEntryBlocks (x ∷ bs) → ends x ≡ false → count_by ends (x ∷ bs) ≡ 0
  none_passed_after x bs all failed = count_no ends x bs failed ∙ no_ends bs all.some.1 (none_after_block x bs all failed)

  -- whether a block is passed tells on which side of the count it is
  pub block_side : (bs : List (List Entry)) (i : ℕ) (xs : List Entry) → AreEntryBlocks bs → slice_get bs i ≡ Some xs → (ends xs ≡ true → i < count_by ends bs) × (ends xs ≡ false → count_by ends bs ≤ i)
  block_side [] i xs all at = absurd (cc)
  block_side (x ∷ bs) zero xs all at =
      let e : x ≡ xs = some_is x xs at in
      ((λ passed. (let c = count_yes ends x bs (ap ends e ∙ passed) in omega (arith, c))), (λ failed. (let c = none_passed_after x bs all (ap ends e ∙ failed) in omega (arith, c))))
  block_side (x ∷ bs) (suc i) xs all at =
      let k = block_side bs i xs (rest_blocks x bs all) at in
      elim (cases_Bool (ends x)) [
        | inl here ↦ (let c = count_yes ends x bs here in ((λ passed. (let h = k.0 passed in omega (arith, c, h))), (λ failed. (let h = k.1 failed in omega (arith, c, h)))))
        | inr other ↦
            (let c = none_passed_after x bs all other in
            let d = count_no ends x bs other in
            ((λ passed. absurd (let h = k.0 passed in omega (arith, c, d, h))), (λ failed. omega (arith, c))))
      ]

  -- where the search over the blocks stops
  pub record Stops (bs : List (List Entry)) (n : ℕ) : Type 0 where
    pub within : (xs : List Entry) → slice_get bs n ≡ Some xs → (count_by test (joined bs) ≡ entries_before bs n + count_by test xs) × (count_by test xs < length xs)
    pub behind : length bs ≤ n → count_by test (joined bs) ≡ length (joined bs)

  pub stops : (bs : List (List Entry)) → AreEntryBlocks bs → Stops bs (count_by ends bs)
  stops [] all = record { within = λ xs at. absurd (cc); behind = λ more. refl }
  stops (x ∷ bs) all =
      let l = last_of x all.some.0 in
      let up = front_in_order entry_cmp x (joined bs) all.ordered in
      let whole = count_append test x (joined bs) in
      let size = length-append x (joined bs) in
      elim (cases_Bool (ends x)) [
        | inl here ↦
            (let c = count_yes ends x bs here in
            let k = stops bs (rest_blocks x bs all) in
            let full = all_pass x up l (sym l.ends_is ∙ here) in
            record {
              within = λ xs at. (
                  let there : slice_get bs (count_by ends bs) ≡ Some xs = ap (slice_get (x ∷ bs)) (sym c) ∙ at in
                  let h = k.within xs there in
                  let m = length-append x (joined (take (count_by ends bs) bs)) in
                  let e : entries_before (x ∷ bs) (count_by ends (x ∷ bs)) ≡ length (x ++ joined (take (count_by ends bs) bs)) = ap (entries_before (x ∷ bs)) c in
                  (omega (arith, whole, full, h.0, m, e), h.1));
              behind = λ more. (let h = k.behind (omega (arith, more, c)) in omega (arith, whole, full, h, size));
            })
        | inr other ↦
            (let c = none_passed_after x bs all other in
            let none = all_fail test (joined bs) (none_after_block x bs all other) in
            record {
              within = λ xs at. (
                  let e : x ≡ xs = some_is x xs (ap (slice_get (x ∷ bs)) (sym c) ∙ at) in
                  let b : entries_before (x ∷ bs) (count_by ends (x ∷ bs)) ≡ 0 = ap (entries_before (x ∷ bs)) c ∙ before_none (x ∷ bs) in
                  let short = not_all x up l (sym l.ends_is ∙ other) in
                  let f = ap (count_by test) e in
                  let g = ap length e in
                  (omega (arith, whole, none, b, f), omega (arith, short, f, g)));
              behind = λ more. absurd (omega (arith, more, c));
            })
      ]

pub passed_below : (k : List ℕ) (xs : List Entry) → count_passed entries k None xs ≡ count_by (is_sought entry_key k false) xs
unfolding count_passed
passed_below k xs = count_same (λ (x : Entry). passes k None (entries.key x) (entries.seqno x)) (is_sought entry_key k false) (λ x. below_is (slice_cmp nat_cmp (entries.key x) k) (entries.seqno x)) xs

pub passed_at_most : (k : List ℕ) (xs : List Entry) → count_passed entries k (Some 0) xs ≡ count_by (is_sought entry_key k true) xs
unfolding count_passed
passed_at_most k xs = count_same (λ (x : Entry). passes k (Some 0) (entries.key x) (entries.seqno x)) (is_sought entry_key k true) (λ x. up_to_is (slice_cmp nat_cmp (entries.key x) k) (entries.seqno x)) xs
