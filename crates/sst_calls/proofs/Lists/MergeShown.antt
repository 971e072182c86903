-- What a compaction leaves of a list, entry by entry: by the last entry that some snapshot sees and that is not hidden.
use Rattle.std.proofs.Common.{◌≡◌, ◌≢◌, ◌∙◌, ℕ, ◌≤◌, Bool, true, false, not, ◌&&◌, cond, List, [], ◌∷◌, ◌++◌, map, filter, Option, None, Some, IfSome, refl, sym, ap, arith, inl, inr}
use Rattle.std.specs.Prelude.{nat_lt}
use Rattle.std.specs.Cmp.Lexicographic.{slice_cmp}
use Rattle.std.specs.Ordering.{nat_cmp, is_eq, ordering_then}
use Rattle.std.specs.Cmp.{nat_cmp_is}
use Rattle.std.specs.declared.cmp.Ordering.TheVariants.{Less}
use Rattle.std.proofs.lemmas.Bool.{cases_Bool, cases_lt}
use Rattle.std.proofs.lemmas.Bool.Decides.{nat_tests}
use Rattle.sstable_blocks.specs.Prelude.{Entry, IsInOrder, is_tombstone}
use Rattle.sstable_blocks.specs.BlockLaws.{and_parts, eq_is}
use Rattle.sstable_blocks.specs.EndLaws.{tail_in_order}
use Rattle.sst_merge.specs.Compact.{is_hidden, is_left_under, is_parted, is_seen, is_dropped}
use Rattle.sst_sources.specs.Merge.{entry_cmp}
use Rattle.sst_merge.specs.Snapshot.{has_last_key}
use Rattle.sst_merge.specs.SnapshotReads.{NoneHas, after_by, both_false, both_true, first_false, none_behind, skip}
use Rattle.sst_sources.specs.Sources.{before}
use Rattle.sst_calls.specs.MergeBatches.{shown_of}
use Rattle.sst_calls.specs.MergeSteps.{hides, next_last, noted, shown_after}

module _ (ss : List ℕ) where
  -- the last entry after one that is seen, or not
  next_seen : (last : Option Entry) (e : Entry) → hides ss last e ≡ false → is_seen ss e.key.seqno ≡ true → next_last ss last e ≡ Some e
  next_seen last e kept seen = ap (λ b. cond b last (cond (is_seen ss e.key.seqno) (Some e) last)) kept ∙ ap (λ b. cond b (Some e) last) seen

  next_unseen : (last : Option Entry) (e : Entry) → hides ss last e ≡ false → is_seen ss e.key.seqno ≡ false → next_last ss last e ≡ last
  next_unseen last e kept seen = ap (λ b. cond b last (cond (is_seen ss e.key.seqno) (Some e) last)) kept ∙ ap (λ b. cond b (Some e) last) seen

  next_hidden : (last : Option Entry) (e : Entry) → hides ss last e ≡ true → next_last ss last e ≡ last
  next_hidden last e hidden = ap (λ b. cond b last (cond (is_seen ss e.key.seqno) (Some e) last)) hidden

  module _ {X : Type 0} (entry : X → Entry) where
    abbrev none : List ℕ → Bool
    none k = false

    -- an entry is hidden
    shown_hidden : (last : Option Entry) (x : X) (xs : List X) → hides ss last (entry x) ≡ true → shown_after entry ss last (x ∷ xs) ≡ shown_after entry ss last xs
    shown_hidden None x xs h = absurd (cc (h))
    shown_hidden (Some l) x xs h =
        let both = and_parts (is_seen ss (entry x).key.seqno) (is_hidden (λ (d : Entry). d) ss (Some (l.key.user_key, l.key.seqno)) (entry x)) h in
        let seen : is_seen ss (entry x).key.seqno ≡ true = both.0 in
        let hidden : is_hidden entry ss (Some (l.key.user_key, l.key.seqno)) x ≡ true = both.1 in
        rw seen (rw hidden refl)

    -- an entry is seen and not hidden
    kept_seen : (last : Option Entry) (x : X) (xs : List X) → is_seen ss (entry x).key.seqno ≡ true → is_hidden entry ss (noted last) x ≡ false → shown_after entry ss last (x ∷ xs) ≡ x ∷ shown_after entry ss (Some (entry x)) xs
    kept_seen last x xs seen kept =
        let stays : is_dropped entry ss none x xs ≡ false = both_false (is_tombstone (entry x).key.value_type) (none (entry x).key.user_key && not (is_left_under entry ss ((entry x).key.user_key, (entry x).key.seqno) xs)) refl in
        rw seen (rw kept (rw stays refl))

    kept_unseen : (last : Option Entry) (x : X) (xs : List X) → is_seen ss (entry x).key.seqno ≡ false → shown_after entry ss last (x ∷ xs) ≡ x ∷ shown_after entry ss last xs
    kept_unseen last x xs seen = rw seen refl

    not_hidden : (last : Option Entry) (x : X) → hides ss last (entry x) ≡ false → is_seen ss (entry x).key.seqno ≡ true → is_hidden entry ss (noted last) x ≡ false
    not_hidden None x kept seen = refl
    not_hidden (Some l) x kept seen = sym (both_true (is_seen ss (entry x).key.seqno) (is_hidden entry ss (Some (l.key.user_key, l.key.seqno)) x) seen) ∙ kept

    -- an entry is not hidden
    shown_kept : (last : Option Entry) (x : X) (xs : List X) → hides ss last (entry x) ≡ false → shown_after entry ss last (x ∷ xs) ≡ x ∷ shown_after entry ss (next_last ss last (entry x)) xs
    shown_kept last x xs kept = elim (cases_Bool (is_seen ss (entry x).key.seqno)) [
      | inl seen ↦ kept_seen last x xs seen (not_hidden last x kept seen) ∙ ap (λ q. x ∷ shown_after entry ss q xs) (sym (next_seen last (entry x) kept seen))
      | inr other ↦ kept_unseen last x xs other ∙ ap (λ q. x ∷ shown_after entry ss q xs) (sym (next_unseen last (entry x) kept other))
    ]

    -- the first entry, and those after it
    pub shown_split : (last : Option Entry) (x : X) (xs : List X) → shown_after entry ss last (x ∷ xs) ≡ shown_after entry ss last (x ∷ []) ++ shown_after entry ss (next_last ss last (entry x)) xs
    shown_split last x xs = elim (cases_Bool (hides ss last (entry x))) [
      | inl hidden ↦
          shown_hidden last x xs hidden ∙ ap (λ q. shown_after entry ss q xs) (sym (next_hidden last (entry x) hidden))
          ∙ ap (λ v. v ++ shown_after entry ss (next_last ss last (entry x)) xs) (sym (shown_hidden last x [] hidden))
      | inr kept ↦ shown_kept last x xs kept ∙ ap (λ v. v ++ shown_after entry ss (next_last ss last (entry x)) xs) (sym (shown_kept last x [] kept))
    ]

    -- the first entry alone, where a test holds
    pub shown_one : (test : X → Bool) (last : Option Entry) (x : X) → filter test (shown_after entry ss last (x ∷ [])) ≡ cond (not (hides ss last (entry x)) && test x) (x ∷ []) []
    shown_one test last x = elim (cases_Bool (hides ss last (entry x))) [
      | inl hidden ↦ ap (filter test) (shown_hidden last x [] hidden) ∙ sym (ap (λ b. cond (not b && test x) (x ∷ []) []) hidden)
      | inr kept ↦ ap (filter test) (shown_kept last x [] kept) ∙ sym (ap (λ b. cond (not b && test x) (x ∷ []) []) kept)
    ]

  module _ {X : Type 0} (entry : X → Entry) where
    abbrev alone : Entry → Entry
    alone e = e

    -- the entries alone
    pub shown-map : (last : Option Entry) (xs : List X) → map entry (shown_after entry ss last xs) ≡ shown_after (λ (e : Entry). e) ss last (map entry xs)
    shown-map last [] = refl
    shown-map last (x ∷ xs) = elim (cases_Bool (hides ss last (entry x))) [
      | inl hidden ↦ ap (map entry) (shown_hidden entry last x xs hidden) ∙ shown-map last xs ∙ sym (shown_hidden alone last (entry x) (map entry xs) hidden)
      | inr kept ↦ ap (map entry) (shown_kept entry last x xs kept) ∙ ap (λ v. entry x ∷ v) (shown-map (next_last ss last (entry x)) xs) ∙ sym (shown_kept alone last (entry x) (map entry xs) kept)
    ]

  abbrev itself : Entry → Entry
  itself e = e

  -- what is behind the last entry's key is not hidden
  apart : (l : Entry) (ys : List Entry) → NoneHas itself l.key.user_key 0 ys → shown_after itself ss (Some l) ys ≡ shown_after itself ss None ys
  apart l [] none_has = refl
  apart l (y ∷ ys) none_has =
      let kept : hides ss (Some l) y ≡ false =
      both_false (is_seen ss y.key.seqno) (is_hidden itself ss (Some (l.key.user_key, l.key.seqno)) y) (first_false (has_last_key itself (Some l.key.user_key) y) (not (is_parted ss y.key.seqno l.key.seqno)) none_has.0) in
      elim (cases_Bool (is_seen ss y.key.seqno)) [
        | inl seen ↦
            shown_kept itself (Some l) y ys kept ∙ ap (λ q. y ∷ shown_after itself ss q ys) (next_seen (Some l) y kept seen ∙ sym (next_seen None y refl seen))
            ∙ sym (shown_kept itself None y ys refl)
        | inr other ↦
            shown_kept itself (Some l) y ys kept ∙ ap (λ q. y ∷ shown_after itself ss q ys) (next_unseen (Some l) y kept other) ∙ ap (λ v. y ∷ v) (apart l ys none_has.1)
            ∙ ap (λ q. y ∷ shown_after itself ss q ys) (sym (next_unseen None y refl other)) ∙ sym (shown_kept itself None y ys refl)
      ]

  -- a lower number is seen too
  seen_below : (xs : List ℕ) (q p : ℕ) → is_seen xs p ≡ true → q ≤ p → is_seen xs q ≡ true
  seen_below [] q p h up = h
  seen_below (s ∷ xs) q p h up = elim (cases_Bool (nat_lt p s)) [
    | inl here ↦ grind (arith, nat_tests)
    | inr other ↦ (let k = seen_below xs q p (grind (arith, nat_tests)) up in grind (arith, nat_tests))
  ]

  -- of the last entry's key the number does not rise
  not_above : (y l : Entry) → is_eq (slice_cmp nat_cmp y.key.user_key l.key.user_key) ≡ true → entry_cmp y l ≢ Less → y.key.seqno ≤ l.key.seqno
  not_above y l same up = elim (cases_lt l.key.seqno y.key.seqno) [
    | inl above ↦ absurd (up (ap (λ o. ordering_then o (nat_cmp l.key.seqno y.key.seqno)) (eq_is (slice_cmp nat_cmp y.key.user_key l.key.user_key) same) ∙ sym (nat_cmp_is l.key.seqno y.key.seqno Less above)))
    | inr not_less ↦ not_less
  ]

  -- where the first entry that is left is not hidden, the last one hides nothing
  pub restart : (last : Option Entry) (ys : List Entry) → IsInOrder entry_cmp (before last ys) → IfSome last (λ (l : Entry). is_seen ss l.key.seqno ≡ true) → ((y : Entry) (rest : List Entry) → ys ≡ y ∷ rest → hides ss last y ≡ false)
      → shown_after (λ (e : Entry). e) ss last ys ≡ shown_of (λ (e : Entry). e) ss ys
  restart None ys order seen stop = refl
  restart (Some l) [] order seen stop = refl
  restart (Some l) (y ∷ ys) order seen stop = elim (cases_Bool (is_seen ss y.key.seqno)) [
    | inl here ↦
        shown_kept itself (Some l) y ys (stop y ys refl) ∙ ap (λ q. y ∷ shown_after itself ss q ys) (next_seen (Some l) y (stop y ys refl) here ∙ sym (next_seen None y refl here))
        ∙ sym (shown_kept itself None y ys refl)
    | inr other ↦ elim (cases_Bool (is_eq (slice_cmp nat_cmp y.key.user_key l.key.user_key))) [
      | inl same ↦ absurd (let too : is_seen ss y.key.seqno ≡ true = seen_below ss y.key.seqno l.key.seqno seen (not_above y l same order.0) in let no : true ≡ false = sym too ∙ other in cc (no))
      | inr differ ↦ apart l (y ∷ ys) (differ, none_behind itself l.key.user_key 0 y ys order.1 (after_by itself l.key.user_key 0 y l (slice_cmp nat_cmp y.key.user_key l.key.user_key) refl refl differ order.0))
    ]
  ]

  -- what is left stays in order behind the last entry
  order_by : (last : Option Entry) (x : Entry) (xs : List Entry) (hidden seen : Bool) → IsInOrder entry_cmp (before last (x ∷ xs)) → IsInOrder entry_cmp (before (cond hidden last (cond seen (Some x) last)) xs)
  order_by None x xs true seen order = tail_in_order entry_cmp x xs order
  order_by None x xs false true order = order
  order_by None x xs false false order = tail_in_order entry_cmp x xs order
  order_by (Some l) x xs true seen order = skip itself [] 0 l x xs order
  order_by (Some l) x xs false true order = order.1
  order_by (Some l) x xs false false order = skip itself [] 0 l x xs order

  pub order_next : (last : Option Entry) (x : Entry) (xs : List Entry) → IsInOrder entry_cmp (before last (x ∷ xs)) → IsInOrder entry_cmp (before (next_last ss last x) xs)
  order_next last x xs order = order_by last x xs (hides ss last x) (is_seen ss x.key.seqno) order

  seen_by : (last : Option Entry) (x : Entry) (hidden seen : Bool) → is_seen ss x.key.seqno ≡ seen → IfSome last (λ (l : Entry). is_seen ss l.key.seqno ≡ true) → IfSome (cond hidden last (cond seen (Some x) last)) (λ (l : Entry). is_seen ss l.key.seqno ≡ true)
  seen_by last x true seen is h = h
  seen_by last x false true is h = is
  seen_by last x false false is h = h

  pub seen_next : (last : Option Entry) (x : Entry) → IfSome last (λ (l : Entry). is_seen ss l.key.seqno ≡ true) → IfSome (next_last ss last x) (λ (l : Entry). is_seen ss l.key.seqno ≡ true)
  seen_next last x h = seen_by last x (hides ss last x) (is_seen ss x.key.seqno) refl h
