-- A compaction for several snapshots changes no read at one of them, or at or above all.
use Rattle.std.proofs.Common.{◌≡◌, ◌≢◌, ℕ, ◌≤◌, Bool, true, false, not, cond, List, [], ◌∷◌, Option, Some, None, refl, sym, ap, ◌∙◌, inl, inr, ◌⊎◌, arith}
use Rattle.std.proofs.lemmas.Bool.{cases_Bool, cases_lt}
use Rattle.std.proofs.lemmas.Bool.Decides.{nat_tests}
use Rattle.std.specs.Prelude.{nat_lt, nat_le, nat_eq, ◌&&◌}
use Rattle.std.specs.Cmp.{nat_cmp_is}
use Rattle.std.specs.Cmp.Lexicographic.{slice_cmp}
use Rattle.std.specs.List.{list_any, list_all}
use Rattle.std.specs.Ordering.{nat_cmp, is_eq, ordering_then}
use Rattle.std.specs.declared.cmp.Ordering.{Ordering}
use Rattle.std.specs.declared.cmp.Ordering.TheVariants.{Less, Equal}
use Rattle.sstable_blocks.specs.Prelude.{Entry, IsInOrder, is_tombstone}
use Rattle.sstable_blocks.specs.BlockLaws.{slice_cmp-equal, and_parts, eq_is}
use Rattle.sst_merge.specs.Compact.{is_seen, is_parted, is_below_all, IsKeptRead, is_hidden, is_parted_from, is_left_under, is_dropped, unless_dropped, compact_from, compacted}
use Rattle.sst_merge.specs.Snapshot.{has_last_key}
use Rattle.sst_merge.specs.SnapshotReads.{both_false, key, number, has, is_match, has_key, NoneHas, order, after_by, none_behind, skip}
use Rattle.sst_sources.specs.ListLaws.{first, first_hit, first_miss, and_not_parts}
use Rattle.sstable_blocks.specs.EndLaws.{tail_in_order}

-- where no snapshot parts two numbers, a kept read that sees the one sees the other
at_one : (ss : List ℕ) (q p r : ℕ) → list_any (λ s. nat_eq s r) ss ≡ true → is_parted ss q p ≡ false → nat_lt q r ≡ true → r ≤ p → true ≡ false
at_one [] q p r a h low up = grind (arith, nat_tests)
at_one (s ∷ ss) q p r a h low up = elim (cases_Bool (nat_eq s r)) [
  | inl here ↦ grind (arith, nat_tests)
  | inr not_here ↦ at_one ss q p r (grind (arith, nat_tests)) (grind (arith, nat_tests)) low up
]

at_all : (ss : List ℕ) (q p r : ℕ) → list_all (λ s. nat_le s r) ss ≡ true → is_seen ss q ≡ true → is_parted ss q p ≡ false → r ≤ p → true ≡ false
at_all [] q p r a seen h up = grind (arith, nat_tests)
at_all (s ∷ ss) q p r a seen h up = elim (cases_Bool (nat_lt q s)) [
  | inl here ↦ grind (arith, nat_tests)
  | inr not_here ↦ at_all ss q p r (grind (arith, nat_tests)) (grind (arith, nat_tests)) (grind (arith, nat_tests)) up
]

read_by : (ss : List ℕ) (q p r : ℕ) → IsKeptRead ss r → is_seen ss q ≡ true → is_parted ss q p ≡ false → nat_lt q r ≡ true → r ≤ p → true ≡ false
read_by ss q p r (inl at) seen h low up = at_one ss q p r at h low up
read_by ss q p r (inr all) seen h low up = at_all ss q p r all seen h up

-- below all snapshots none parts
not_parted : (ss : List ℕ) (q p : ℕ) → is_below_all ss p ≡ true → is_parted ss q p ≡ false
not_parted [] q p h = refl
not_parted (s ∷ ss) q p h = let k = not_parted ss q p (grind (arith, nat_tests)) in grind (arith, nat_tests)

-- what is lower is seen too
pub seen_lower : (ss : List ℕ) (q p : ℕ) → is_seen ss p ≡ true → q ≤ p → is_seen ss q ≡ true
seen_lower [] q p h up = h
seen_lower (s ∷ ss) q p h up = elim (cases_Bool (nat_lt p s)) [
  | inl here ↦ grind (arith, nat_tests)
  | inr other ↦ let k = seen_lower ss q p (grind (arith, nat_tests)) up in grind (arith, nat_tests)
]

-- of the last key a version is hidden or parted
pub not_hidden_parted : (a b : Bool) → a ≡ true → (a && not b) ≡ false → (a && b) ≡ true
not_hidden_parted true true h k = refl
not_hidden_parted true false h k = absurd (cc)
not_hidden_parted false b h k = absurd (cc)

module _ {X : Type 0} (entry : X → Entry) (ss : List ℕ) where
  -- a version that the last one hides is passed, another decides whether one is left under it
  pub under_passed : (l : List ℕ × ℕ) (x : X) (xs : List X) → is_seen ss (entry x).key.seqno ≡ true → is_hidden entry ss (Some l) x ≡ true → is_left_under entry ss l (x ∷ xs) ≡ is_left_under entry ss l xs
  under_passed l x xs h k = rw (h, k) refl

  pub under_first : (l : List ℕ × ℕ) (x : X) (xs : List X) → is_hidden entry ss (Some l) x ≡ false → is_left_under entry ss l (x ∷ xs) ≡ is_parted_from entry ss l x
  under_first l x xs h = ap (λ b. cond b (is_left_under entry ss l xs) (is_parted_from entry ss l x)) (both_false (is_seen ss (entry x).key.seqno) (is_hidden entry ss (Some l) x) h)

  -- where every snapshot sees the last version, none is left under it
  pub none_under : (l : List ℕ × ℕ) (xs : List X) → is_below_all ss l.1 ≡ true → is_left_under entry ss l xs ≡ false
  none_under l [] h = refl
  none_under l (x ∷ xs) h = elim (cases_Bool (is_seen ss (entry x).key.seqno && is_hidden entry ss (Some l) x)) [
    | inl again ↦ ap (λ b. cond b (is_left_under entry ss l xs) (is_parted_from entry ss l x)) again ∙ none_under l xs h
    | inr fresh ↦ ap (λ b. cond b (is_left_under entry ss l xs) (is_parted_from entry ss l x)) fresh ∙ both_false (has_last_key entry (Some l.0) x) (is_parted ss (entry x).key.seqno l.1) (not_parted ss (entry x).key.seqno l.1 h)
  ]

module _ {X : Type 0} (entry : X → Entry) (ss : List ℕ) (bottom : List ℕ → Bool) where
  abbrev pub go : Option (List ℕ × ℕ) → List X → List X
  go = compact_from entry ss bottom

  -- the last version that some snapshot sees
  abbrev pub at : X → Option (List ℕ × ℕ)
  at x = Some ((entry x).key.user_key, (entry x).key.seqno)

  -- the four ways of a version
  pub kept : (last : Option (List ℕ × ℕ)) (x : X) (xs : List X) → is_seen ss (entry x).key.seqno ≡ false → go last (x ∷ xs) ≡ x ∷ go last xs
  kept last x xs h = rw h refl

  pub repeated : (last : Option (List ℕ × ℕ)) (x : X) (xs : List X) → is_seen ss (entry x).key.seqno ≡ true → is_hidden entry ss last x ≡ true → go last (x ∷ xs) ≡ go last xs
  repeated last x xs h k = rw (h, k) refl

  pub newest : (last : Option (List ℕ × ℕ)) (x : X) (xs : List X) → is_seen ss (entry x).key.seqno ≡ true → is_hidden entry ss last x ≡ false → go last (x ∷ xs) ≡ unless_dropped entry ss bottom x xs (go (at x) xs)
  newest last x xs h k = rw (h, k) refl

  dropped : (x : X) (xs es : List X) → is_dropped entry ss bottom x xs ≡ true → unless_dropped entry ss bottom x xs es ≡ es
  dropped x xs es h = ap (λ b. cond b es (x ∷ es)) h

  stays : (x : X) (xs es : List X) → is_dropped entry ss bottom x xs ≡ false → unless_dropped entry ss bottom x xs es ≡ x ∷ es
  stays x xs es h = ap (λ b. cond b es (x ∷ es)) h

  module _ (k : List ℕ) (r : ℕ) where
    abbrev m : X → Bool
    m = is_match entry k r

    -- a list without the key has none of it then
    c1 : (last : Option (List ℕ × ℕ)) (xs : List X) → NoneHas entry k r xs → first m (go last xs) ≡ None
    c1 last [] h = refl
    c1 last (x ∷ xs) h =
        let miss : m x ≡ false = both_false (nat_lt (number entry k r x) r) (has entry k r x) h.0 in
        elim (cases_Bool (is_seen ss (entry x).key.seqno)) [
          | inr above ↦ ap (first m) (kept last x xs above) ∙ first_miss m x (go last xs) miss ∙ c1 last xs h.1
          | inl below ↦ elim (cases_Bool (is_hidden entry ss last x)) [
            | inl again ↦ ap (first m) (repeated last x xs below again) ∙ c1 last xs h.1
            | inr fresh ↦ ap (first m) (newest last x xs below fresh) ∙ elim (cases_Bool (is_dropped entry ss bottom x xs)) [
              | inl gone ↦ ap (first m) (dropped x xs (go (at x) xs) gone) ∙ c1 (at x) xs h.1
              | inr here ↦ ap (first m) (stays x xs (go (at x) xs) here) ∙ first_miss m x (go (at x) xs) miss ∙ c1 (at x) xs h.1
            ]
          ]
        ]

    -- of equal keys, the later number is not the greater
    older_by : (a b : ℕ) → nat_cmp a b ≢ Less → b ≤ a
    older_by a b h = elim (cases_lt a b) [
      | inl less ↦ absurd (h (sym (nat_cmp_is a b Less less)))
      | inr ge ↦ ge
    ]

    pub older : (l x : X) → key entry k r x ≡ key entry k r l → order entry k r x l ≢ Less → number entry k r x ≤ number entry k r l
    older l x same up =
        let e : slice_cmp nat_cmp (key entry k r x) (key entry k r l) ≡ Equal = (slice_cmp-equal (key entry k r x) (key entry k r l)).1 same in
        older_by (number entry k r l) (number entry k r x) (λ w. up (ap (λ o. ordering_then o (nat_cmp (number entry k r l) (number entry k r x))) e ∙ w))

    -- after a version of the key under which none is left, no more of it is kept
    c2 : (l : X) (xs : List X) → has entry k r l ≡ true → is_seen ss (number entry k r l) ≡ true → is_left_under entry ss ((entry l).key.user_key, (entry l).key.seqno) xs ≡ false → IsInOrder (order entry k r) (l ∷ xs) → first m (go (at l) xs) ≡ None
    c2 l [] mine seen none up = refl
    c2 l (x ∷ xs) mine seen none up = elim (cases_Bool (has entry k r x)) [
      | inl same ↦ (
          let last : List ℕ × ℕ = ((entry l).key.user_key, (entry l).key.seqno) in
          let has_last : has_last_key entry (Some (entry l).key.user_key) x ≡ true = ap (λ b. is_eq (slice_cmp nat_cmp (key entry k r x) b)) (has_key entry k r l mine) ∙ same in
          let keys : key entry k r x ≡ key entry k r l = has_key entry k r x same ∙ sym (has_key entry k r l mine) in
          let below : is_seen ss (entry x).key.seqno ≡ true = seen_lower ss (number entry k r x) (number entry k r l) seen (older l x keys up.0) in
          elim (cases_Bool (is_hidden entry ss (at l) x)) [
            | inl again ↦ ap (first m) (repeated (at l) x xs below again) ∙ c2 l xs mine seen (sym (under_passed entry ss last x xs below again) ∙ none) (skip entry k r l x xs up)
            | inr fresh ↦ absurd (let f : true ≡ false = sym (under_first entry ss last x xs fresh ∙ not_hidden_parted (has_last_key entry (Some (entry l).key.user_key) x) (is_parted ss (entry x).key.seqno (entry l).key.seqno) has_last fresh) ∙ none in cc)
          ])
      | inr other ↦ c1 (at l) (x ∷ xs) (other, none_behind entry k r x xs up.1 (after_by entry k r x l (slice_cmp nat_cmp (key entry k r x) k) refl (has_key entry k r l mine) other up.0))
    ]

    -- if the last version has the key, the read does not see it
    abbrev IsUnseen : Option (List ℕ × ℕ) → Type 0
    IsUnseen None = Unit {0}
    IsUnseen (Some l) = is_eq (slice_cmp nat_cmp l.0 k) ≡ true → r ≤ l.1

    passed_by : (q : ℕ) (t : Bool) → (nat_lt q r && t) ≡ false → t ≡ true → r ≤ q
    passed_by q true h e = grind (arith, nat_tests)
    passed_by q false h e = absurd (cc)

    passed_at : (x : X) → m x ≡ false → IsUnseen (at x)
    passed_at x miss = λ e. passed_by (number entry k r x) (has entry k r x) miss e

    -- no match is hidden
    not_hidden : IsKeptRead ss r → (last : Option (List ℕ × ℕ)) (x : X) → IsUnseen last → is_seen ss (entry x).key.seqno ≡ true → m x ≡ true → is_hidden entry ss last x ≡ true → true ≡ false
    not_hidden read None x o seen hit h = sym h
    not_hidden read (Some l) x o seen hit h =
        let t = and_not_parts (has_last_key entry (Some l.0) x) (is_parted ss (entry x).key.seqno l.1) h in
        let p = and_parts (nat_lt (number entry k r x) r) (has entry k r x) hit in
        let same : key entry k r x ≡ l.0 = (slice_cmp-equal (key entry k r x) l.0).0 (eq_is (slice_cmp nat_cmp (key entry k r x) l.0) t.0) in
        let mine : is_eq (slice_cmp nat_cmp l.0 k) ≡ true = ap (λ b. is_eq (slice_cmp nat_cmp b k)) (sym same) ∙ p.1 in
        read_by ss (entry x).key.seqno l.1 r read seen t.1 p.0 (o mine)

    -- the first match stays, or it was a tombstone at the bottom of its key, and none is left
    abbrev pub IsSameOrGone : Option X → Option X → Type 0
    IsSameOrGone a b = (a ≡ b) ⊎ ((a ≡ None) × ((x : X) × (b ≡ Some x) × (is_tombstone (entry x).key.value_type ≡ true) × (bottom k ≡ true)))

    alike : (a b c d : Option X) → a ≡ c → b ≡ d → IsSameOrGone c d → IsSameOrGone a b
    alike a b c d e f (inl same) = inl (e ∙ same ∙ sym f)
    alike a b c d e f (inr gone) = inr (e ∙ gone.0, (gone.1.0, f ∙ gone.1.1, gone.1.2, gone.1.3))

    c3 : IsKeptRead ss r → (last : Option (List ℕ × ℕ)) (xs : List X) → IsUnseen last → IsInOrder (order entry k r) xs → IsSameOrGone (first m (go last xs)) (first m xs)
    c3 read last [] o up = inl refl
    c3 read last (x ∷ xs) o up =
        let tail = tail_in_order (order entry k r) x xs up in
        elim (cases_Bool (is_seen ss (entry x).key.seqno)) [
          | inr above ↦ elim (cases_Bool (m x)) [
            | inl hit ↦ inl (ap (first m) (kept last x xs above) ∙ first_hit m x (go last xs) hit ∙ sym (first_hit m x xs hit))
            | inr miss ↦ alike _ _ _ _ (ap (first m) (kept last x xs above) ∙ first_miss m x (go last xs) miss) (first_miss m x xs miss) (c3 read last xs o tail)
          ]
          | inl below ↦ elim (cases_Bool (m x)) [
            | inl hit ↦ elim (cases_Bool (is_hidden entry ss last x)) [
              | inl again ↦ absurd (let f : true ≡ false = not_hidden read last x o below hit again in cc)
              | inr fresh ↦ elim (cases_Bool (is_dropped entry ss bottom x xs)) [
                | inl gone ↦ (
                    let under = is_left_under entry ss ((entry x).key.user_key, (entry x).key.seqno) xs in
                    let t = and_parts (is_tombstone (entry x).key.value_type) (bottom (entry x).key.user_key && not under) gone in
                    let u = and_not_parts (bottom (entry x).key.user_key) under t.1 in
                    let mine = (and_parts (nat_lt (number entry k r x) r) (has entry k r x) hit).1 in
                    inr (
                      ap (first m) (newest last x xs below fresh ∙ dropped x xs (go (at x) xs) gone) ∙ c2 x xs mine below u.1 up,
                      (x, first_hit m x xs hit, t.0, ap bottom (sym (has_key entry k r x mine)) ∙ u.0),
                    ))
                | inr here ↦ inl (ap (first m) (newest last x xs below fresh ∙ stays x xs (go (at x) xs) here) ∙ first_hit m x (go (at x) xs) hit ∙ sym (first_hit m x xs hit))
              ]
            ]
            | inr miss ↦ elim (cases_Bool (is_hidden entry ss last x)) [
              | inl again ↦ alike _ _ _ _ (ap (first m) (repeated last x xs below again)) (first_miss m x xs miss) (c3 read last xs o tail)
              | inr fresh ↦ elim (cases_Bool (is_dropped entry ss bottom x xs)) [
                | inl gone ↦ alike _ _ _ _ (ap (first m) (newest last x xs below fresh ∙ dropped x xs (go (at x) xs) gone)) (first_miss m x xs miss) (c3 read (at x) xs (passed_at x miss) tail)
                | inr here ↦ alike _ _ _ _ (ap (first m) (newest last x xs below fresh ∙ stays x xs (go (at x) xs) here) ∙ first_miss m x (go (at x) xs) miss) (first_miss m x xs miss) (c3 read (at x) xs (passed_at x miss) tail)
              ]
            ]
          ]
        ]

    pub compact-first_match : IsKeptRead ss r → (xs : List X) → IsInOrder (order entry k r) xs → IsSameOrGone (first m (compacted entry ss bottom xs)) (first m xs)
    compact-first_match read xs up = c3 read None xs tt up

  -- the order does not depend on the needle
  abbrev cmp : X → X → Ordering
  cmp = order entry [] 0

  behind_one : (l : X) (last : Option (List ℕ × ℕ)) (xs : List X) → IsInOrder cmp (l ∷ xs) → IsInOrder cmp (l ∷ go last xs)
  behind_one l last [] up = tt
  behind_one l last (x ∷ xs) up = elim (cases_Bool (is_seen ss (entry x).key.seqno)) [
    | inr above ↦ rw (kept last x xs above) (up.0, behind_one x last xs up.1)
    | inl below ↦ elim (cases_Bool (is_hidden entry ss last x)) [
      | inl again ↦ rw (repeated last x xs below again) (behind_one l last xs (skip entry [] 0 l x xs up))
      | inr first_of ↦ rw (newest last x xs below first_of) (elim (cases_Bool (is_dropped entry ss bottom x xs)) [
        | inl gone ↦ rw gone (behind_one l (at x) xs (skip entry [] 0 l x xs up))
        | inr here ↦ rw here (up.0, behind_one x (at x) xs up.1)
      ])
    ]
  ]

  in_order : (last : Option (List ℕ × ℕ)) (xs : List X) → IsInOrder cmp xs → IsInOrder cmp (go last xs)
  in_order last [] up = tt
  in_order last (x ∷ xs) up = elim (cases_Bool (is_seen ss (entry x).key.seqno)) [
    | inr above ↦ rw (kept last x xs above) (behind_one x last xs up)
    | inl below ↦ elim (cases_Bool (is_hidden entry ss last x)) [
      | inl again ↦ rw (repeated last x xs below again) (in_order last xs (tail_in_order (order entry [] 0) x xs up))
      | inr first_of ↦ rw (newest last x xs below first_of) (elim (cases_Bool (is_dropped entry ss bottom x xs)) [
        | inl gone ↦ rw gone (in_order (at x) xs (tail_in_order (order entry [] 0) x xs up))
        | inr here ↦ rw here (behind_one x (at x) xs up)
      ])
    ]
  ]

  -- a compaction of an ordered list is ordered
  pub compact-ordered : (xs : List X) → IsInOrder cmp xs → IsInOrder cmp (compacted entry ss bottom xs)
  compact-ordered xs up = in_order None xs up
