-- What a compaction of an ordered list for several snapshots leaves of it: the versions that pass a test of a version, of
-- those before it and of those after it.
use Rattle.std.proofs.Common.{◌≡◌, ◌≢◌, ℕ, ◌≤◌, Bool, true, false, not, cond, List, [], ◌∷◌, Option, Some, None, refl, sym, ap, ◌∙◌, inl, inr, arith}
use Rattle.std.proofs.lemmas.Bool.{cases_Bool}
use Rattle.std.proofs.lemmas.Bool.Decides.{nat_tests}
use Rattle.std.specs.Option.{option_map}
use Rattle.std.specs.Prelude.{nat_lt, nat_le, ◌&&◌, ◌||◌}
use Rattle.std.specs.Cmp.Lexicographic.{slice_cmp}
use Rattle.std.specs.List.{AllByRecursion}
use Rattle.std.specs.Ordering.{nat_cmp, is_eq}
use Rattle.std.specs.declared.cmp.Ordering.{Ordering}
use Rattle.std.specs.declared.cmp.Ordering.TheVariants.{Less}
use Rattle.sstable_blocks.specs.Prelude.{Entry, IsInOrder, is_tombstone}
use Rattle.sst_merge.specs.CompactLaws.{kept, repeated, newest, older, seen_lower, under_passed, under_first, not_hidden_parted}
use Rattle.sst_merge.specs.Compact.{is_seen, is_parted, is_hidden, is_left_under, compact_from, compacted, has_newer, has_older, stays, staying}
use Rattle.sst_merge.specs.PlainLaws.{Behind, behind_first, behind_rest, key_after, last_is, other, or_false}
use Rattle.sst_merge.specs.Snapshot.{has_last_key, kept_between}
use Rattle.sst_merge.specs.SnapshotReads.{order, skip, both_false, first_false}
use Rattle.sst_sources.specs.ListLaws.{left_out, and_not_parts}
use Rattle.sstable_blocks.specs.EndLaws.{tail_in_order}

-- a snapshot that sees the one number and none that sees the other
unseen_parts : (ss : List ℕ) (q p : ℕ) → is_seen ss q ≡ true → is_seen ss p ≡ false → is_parted ss q p ≡ true
unseen_parts [] q p h k = h
unseen_parts (s ∷ ss) q p h k = elim (cases_Bool (nat_lt q s)) [
  | inl here ↦ grind (arith, nat_tests)
  | inr not_here ↦ let t = unseen_parts ss q p (grind (arith, nat_tests)) (grind (arith, nat_tests)) in grind (arith, nat_tests)
]

parts_through : (ss : List ℕ) (q p l : ℕ) → is_parted ss q p ≡ false → is_parted ss p l ≡ false → is_parted ss q l ≡ false
parts_through [] q p l h k = refl
parts_through (s ∷ ss) q p l h k =
    let t = parts_through ss q p l (grind (arith, nat_tests)) (grind (arith, nat_tests)) in
    elim (cases_Bool (nat_lt q s)) [
      | inl here ↦ elim (cases_Bool (nat_le s p)) [ inl a ↦ grind (arith, nat_tests) | inr b ↦ grind (arith, nat_tests) ]
      | inr not_here ↦ grind (arith, nat_tests)
    ]

parts_lower : (ss : List ℕ) (q p l : ℕ) → q ≤ p → is_parted ss p l ≡ true → is_parted ss q l ≡ true
parts_lower [] q p l h k = k
parts_lower (s ∷ ss) q p l h k = elim (cases_Bool (nat_lt p s && nat_le s l)) [
  | inl here ↦ grind (arith, nat_tests)
  | inr not_here ↦ let t = parts_lower ss q p l h (grind (arith, nat_tests)) in grind (arith, nat_tests)
]

and_not : (a b : Bool) → b ≡ true → (a && not b) ≡ false
and_not true b h = ap not h
and_not false b h = refl

not_and : (a b : Bool) → a ≡ false → (a && not b) ≡ false
not_and a b h = ap (λ c. c && not b) h

-- of a test that implies another, both are the other
absorbed : (a b : Bool) → (a ≡ true → b ≡ true) → (a || b) ≡ b
absorbed true b h = sym (h refl)
absorbed false b h = refl

module _ {X : Type 0} (entry : X → Entry) (ss : List ℕ) (bottom : List ℕ → Bool) where
  abbrev cmp : X → X → Ordering
  cmp = order entry [] 0

  abbrev key_of : X → List ℕ
  key_of x = (entry x).key.user_key

  abbrev num : X → ℕ
  num x = (entry x).key.seqno

  abbrev go : Option (List ℕ × ℕ) → List X → List X
  go = compact_from entry ss bottom

  abbrev at : X → Option (List ℕ × ℕ)
  at x = Some (key_of x, num x)

  abbrev to : List X → List X → List X
  to = kept_between (stays entry ss bottom)

  abbrev last_key : Option (List ℕ × ℕ) → Option (List ℕ)
  last_key last = option_map (λ (l : List ℕ × ℕ). l.0) last

  -- of the versions that some snapshot sees, the last version hides those of which a version before is one that hides
  abbrev Agree : Option (List ℕ × ℕ) → List X → List X → Type 0
  Agree last before rest = AllByRecursion (λ e. is_seen ss (num e) ≡ true → is_hidden entry ss last e ≡ has_newer entry ss before e) rest

  -- versions none of which sorts before x
  abbrev Follow : X → List X → Type 0
  Follow x rest = AllByRecursion (λ e. cmp e x ≢ Less) rest

  follow : (x : X) (xs : List X) → IsInOrder cmp (x ∷ xs) → Follow x xs
  follow x [] up = tt
  follow x (y ∷ ys) up = (up.0, follow x ys (skip entry [] 0 x y ys up))

  agree_above : (last : Option (List ℕ × ℕ)) (x : X) (before rest : List X) → is_seen ss (num x) ≡ false → Agree last before rest → Agree last (x ∷ before) rest
  agree_above last x before [] above all = tt
  agree_above last x before (e ∷ rest) above all = (
    λ seen. all.0 seen ∙ sym (ap (λ b. b || has_newer entry ss before e) (and_not (has_last_key entry (Some (key_of x)) e) (is_parted ss (num e) (num x)) (unseen_parts ss (num e) (num x) seen above))),
    agree_above last x before rest above all.1,
  )

  hides_too : (last : Option (List ℕ × ℕ)) (x e : X) → is_hidden entry ss last x ≡ true → is_hidden entry ss (at x) e ≡ true → is_hidden entry ss last e ≡ true
  hides_too None x e h k = h
  hides_too (Some l) x e h k =
      let a = and_not_parts (has_last_key entry (Some l.0) x) (is_parted ss (num x) l.1) h in
      let b = and_not_parts (has_last_key entry (Some (key_of x)) e) (is_parted ss (num e) (num x)) k in
      let same : has_last_key entry (Some l.0) e ≡ true = ap (λ j. is_eq (slice_cmp nat_cmp (key_of e) j)) (sym (last_is entry 0 l.0 x a.0)) ∙ b.0 in
      ap (λ t. t && not (is_parted ss (num e) l.1)) same ∙ ap not (parts_through ss (num e) (num x) l.1 b.1 a.1)

  agree_again : (last : Option (List ℕ × ℕ)) (x : X) (before rest : List X) → is_hidden entry ss last x ≡ true → Agree last before rest → Agree last (x ∷ before) rest
  agree_again last x before [] again all = tt
  agree_again last x before (e ∷ rest) again all = (
    λ seen. sym (absorbed (is_hidden entry ss (at x) e) (is_hidden entry ss last e) (hides_too last x e again)) ∙ ap (λ c. is_hidden entry ss (at x) e || c) (all.0 seen),
    agree_again last x before rest again all.1,
  )

  -- what the last version does not hide has nothing after it that the last version hides
  past : (last : Option (List ℕ × ℕ)) (x e : X) (xs : List X) → Behind entry 0 (last_key last) (x ∷ xs) → is_hidden entry ss last x ≡ false → cmp e x ≢ Less → is_hidden entry ss last e ≡ false
  past None x e xs h f up = refl
  past (Some l) x e xs h f up = elim (cases_Bool (has_last_key entry (Some l.0) x)) [
    | inr different ↦ not_and (has_last_key entry (Some l.0) e) (is_parted ss (num e) l.1) (other entry 0 (Some l.0) x e xs h different (key_after entry 0 e x up))
    | inl mine ↦ elim (cases_Bool (has_last_key entry (Some l.0) e)) [
      | inr different ↦ not_and (has_last_key entry (Some l.0) e) (is_parted ss (num e) l.1) different
      | inl same ↦ (
          let keys : key_of e ≡ key_of x = last_is entry 0 l.0 e same ∙ sym (last_is entry 0 l.0 x mine) in
          let parted : is_parted ss (num x) l.1 ≡ true = (let t = sym (ap (λ c. c && not (is_parted ss (num x) l.1)) mine) ∙ f in elim (cases_Bool (is_parted ss (num x) l.1)) [ inl yes_it ↦ yes_it | inr not_it ↦ absurd (let u : true ≡ false = sym (ap not not_it) ∙ t in cc) ]) in
          and_not (has_last_key entry (Some l.0) e) (is_parted ss (num e) l.1) (parts_lower ss (num e) (num x) l.1 (older entry ss bottom [] 0 x e keys up) parted))
    ]
  ]

  agree_fresh : (last : Option (List ℕ × ℕ)) (x : X) (before rest xs : List X) → is_hidden entry ss last x ≡ false → Behind entry 0 (last_key last) (x ∷ xs) → Follow x rest → Agree last before rest → Agree (at x) (x ∷ before) rest
  agree_fresh last x before [] xs fresh h k all = tt
  agree_fresh last x before (e ∷ rest) xs fresh h k all = (
    λ seen. sym (or_false (is_hidden entry ss (at x) e)) ∙ ap (λ c. is_hidden entry ss (at x) e || c) (sym (sym (all.0 seen) ∙ past last x e xs h fresh k.0)),
    agree_fresh last x before rest xs fresh h k.1 all.1,
  )

  behind_more : (last : Option (List ℕ × ℕ)) (x : X) (xs : List X) → Behind entry 0 (last_key last) (x ∷ xs) → Behind entry 0 (last_key last) xs
  behind_more last x xs h = behind_rest entry 0 (last_key last) x xs h

  -- after a version of another key none has the last key
  none_older : (x y : X) (ys rest : List X) → Behind entry 0 (Some (key_of x)) (y ∷ ys) → has_last_key entry (Some (key_of x)) y ≡ false → Behind entry 0 (Some (key_of y)) rest → has_older entry ss rest x ≡ false
  none_older x y ys [] h different k = refl
  none_older x y ys (e ∷ rest) h different k =
      ap (λ b. b || has_older entry ss rest x) (first_false (has_last_key entry (Some (key_of x)) e) (is_parted ss (num e) (num x)) (other entry 0 (Some (key_of x)) y e ys h different k.0))
      ∙ none_older x y ys rest h different k.1

  -- what is left under a version is what is after it
  under_same : (x : X) (xs : List X) → is_seen ss (num x) ≡ true → IsInOrder cmp (x ∷ xs) → is_left_under entry ss (key_of x, num x) xs ≡ has_older entry ss xs x
  under_same x [] seen up = refl
  under_same x (y ∷ ys) seen up =
      let has = has_last_key entry (Some (key_of x)) y in
      let parted = is_parted ss (num y) (num x) in
      let last : List ℕ × ℕ = (key_of x, num x) in
      elim (cases_Bool (is_hidden entry ss (at x) y)) [
        | inl again ↦ (
            let a = and_not_parts has parted again in
            let below : is_seen ss (num y) ≡ true = seen_lower ss (num y) (num x) seen (older entry ss bottom [] 0 x y (last_is entry 0 (key_of x) y a.0) up.0) in
            under_passed entry ss last y ys below again
            ∙ under_same x ys seen (skip entry [] 0 x y ys up)
            ∙ sym (ap (λ b. b || has_older entry ss ys x) (both_false has parted a.1)))
        | inr fresh ↦ under_first entry ss last y ys fresh ∙ elim (cases_Bool has) [
          | inl same ↦ (
              let is = not_hidden_parted has parted same fresh in
              is ∙ sym (ap (λ b. b || has_older entry ss ys x) is))
          | inr different ↦ (
              let is = first_false has parted different in
              is ∙ sym (ap (λ b. b || has_older entry ss ys x) is ∙ none_older x y ys ys (behind_first entry 0 x (y ∷ ys) up) different (behind_first entry 0 y ys up.1)))
        ]
      ]

  c_same : (last : Option (List ℕ × ℕ)) (before xs : List X) → IsInOrder cmp xs → Behind entry 0 (last_key last) xs → Agree last before xs → go last xs ≡ to before xs
  c_same last before [] up h all = refl
  c_same last before (x ∷ xs) up h all =
      let tail = tail_in_order (order entry [] 0) x xs up in
      let rest = λ (b t v : Bool). cond (not b || (not v && not t)) (x ∷ to (x ∷ before) xs) (to (x ∷ before) xs) in
      let at_end = λ (t : Bool). is_tombstone (entry x).key.value_type && (bottom (key_of x) && not t) in
      let gone = at_end (has_older entry ss xs x) in
      elim (cases_Bool (is_seen ss (num x))) [
        | inr above ↦ kept entry ss bottom last x xs above
            ∙ ap (λ zs. x ∷ zs) (c_same last (x ∷ before) xs tail (behind_more last x xs h) (agree_above last x before xs above all.1))
            ∙ sym (ap (λ b. rest b gone (has_newer entry ss before x)) above)
        | inl below ↦ elim (cases_Bool (is_hidden entry ss last x)) [
          | inl again ↦ repeated entry ss bottom last x xs below again
              ∙ c_same last (x ∷ before) xs tail (behind_more last x xs h) (agree_again last x before xs again all.1)
              ∙ sym (ap (rest true gone) (sym (all.0 below) ∙ again))
          | inr fresh ↦ newest entry ss bottom last x xs below fresh
              ∙ ap (λ t. cond (at_end t) (go (at x) xs) (x ∷ go (at x) xs)) (under_same x xs below up)
              ∙ left_out gone x (go (at x) xs) (to (x ∷ before) xs)
              (c_same (at x) (x ∷ before) xs tail (behind_first entry 0 x xs up) (agree_fresh last x before xs xs fresh h (follow x xs up) all.1))
              ∙ sym (ap (rest true gone) (sym (all.0 below) ∙ fresh))
        ]
            ∙ sym (ap (λ b. rest b gone (has_newer entry ss before x)) below)
      ]

  none_yet : (xs : List X) → Agree None [] xs
  none_yet [] = tt
  none_yet (x ∷ xs) = (λ seen. refl, none_yet xs)

  -- a compaction of an ordered list leaves the versions that pass the test
  pub compacted-staying : (xs : List X) → IsInOrder cmp xs → compacted entry ss bottom xs ≡ staying entry ss bottom xs
  compacted-staying xs up = c_same None [] xs up tt (none_yet xs)
