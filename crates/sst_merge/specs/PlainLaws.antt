-- What a snapshot of an ordered list shows: the versions that pass a test of a version and of those before it.
use Rattle.std.proofs.Common.{◌≡◌, ◌≢◌, ℕ, Bool, true, false, not, cond, List, [], ◌∷◌, Option, Some, None, refl, sym, ap, ◌∙◌, inl, inr}
use Rattle.std.proofs.lemmas.Bool.{cases_Bool}
use Rattle.std.proofs.lemmas.Cmp.{nat_list_cmp_total}
use Rattle.std.specs.Prelude.{nat_lt, ◌&&◌, ◌||◌}
use Rattle.std.specs.Cmp.Lexicographic.{slice_cmp}
use Rattle.std.specs.List.{AllByRecursion}
use Rattle.std.specs.Ordering.{nat_cmp, is_eq, ordering_then, ordering_reverse}
use Rattle.std.specs.declared.cmp.Ordering.{Ordering}
use Rattle.std.specs.declared.cmp.Ordering.TheVariants.{Less, Equal, Greater}
use Rattle.sstable_blocks.specs.Prelude.{Entry, IsInOrder, is_tombstone}
use Rattle.sstable_blocks.specs.BlockLaws.{keys_equal}
use Rattle.sst_merge.specs.Snapshot.{visible_from, snapshot, unless_deleted, has_last_key, has_version, is_shown, shown, kept_after}
use Rattle.sst_merge.specs.SnapshotReads.{order, skip}
use Rattle.sst_sources.specs.ListLaws.{left_out}
use Rattle.sstable_blocks.specs.EndLaws.{tail_in_order}

or_same : (b : Bool) → (b || b) ≡ b
or_same true = refl
or_same false = refl

pub or_false : (b : Bool) → (b || false) ≡ b
or_false true = refl
or_false false = refl

module _ {X : Type 0} (entry : X → Entry) (s : ℕ) where
  abbrev key_of : X → List ℕ
  key_of x = (entry x).key.user_key

  abbrev is_below : X → Bool
  is_below x = nat_lt (entry x).key.seqno s

  abbrev cmp : X → X → Ordering
  cmp = order entry [] 0

  -- the last key is that of a version before, if any has the key
  abbrev Agree : Option (List ℕ) → List X → List X → Type 0
  Agree last before rest = AllByRecursion (λ e. has_last_key entry last e ≡ has_version entry s before e) rest

  -- no version that is left sorts before the last key
  abbrev pub Behind : Option (List ℕ) → List X → Type 0
  Behind None rest = Unit {0}
  Behind (Some k) rest = AllByRecursion (λ e. slice_cmp nat_cmp (key_of e) k ≢ Less) rest

  -- a version that does not sort before another has no lesser key
  pub key_after : (e x : X) → cmp e x ≢ Less → slice_cmp nat_cmp (key_of e) (key_of x) ≢ Less
  key_after e x up less = up (ap (λ o. ordering_then o (nat_cmp (entry x).key.seqno (entry e).key.seqno)) less)

  pub behind_first : (x : X) (xs : List X) → IsInOrder cmp (x ∷ xs) → Behind (Some (key_of x)) xs
  behind_first x [] up = tt
  behind_first x (y ∷ ys) up = (key_after y x up.0, behind_first x ys (skip entry [] 0 x y ys up))

  pub behind_rest : (last : Option (List ℕ)) (x : X) (xs : List X) → Behind last (x ∷ xs) → Behind last xs
  behind_rest None x xs h = tt
  behind_rest (Some k) x xs h = h.1

  -- the key of a version
  pub last_is : (k : List ℕ) (x : X) → has_last_key entry (Some k) x ≡ true → key_of x ≡ k
  last_is k x h = keys_equal (key_of x) k h

  other_by : (k : List ℕ) (x e : X) (o : Ordering) → slice_cmp nat_cmp (key_of x) k ≡ o → o ≢ Less → is_eq o ≡ false → slice_cmp nat_cmp (key_of e) (key_of x) ≢ Less → has_last_key entry (Some k) e ≡ false
  other_by k x e Less i n f up = absurd (n refl)
  other_by k x e Equal i n f up = absurd (cc)
  other_by k x e Greater i n f up = elim (cases_Bool (has_last_key entry (Some k) e)) [
    | inr other ↦ other
    | inl same ↦ absurd (up (ap (λ j. slice_cmp nat_cmp j (key_of x)) (last_is k e same) ∙ nat_list_cmp_total.antisymm k (key_of x) ∙ ap ordering_reverse i))
  ]

  -- after a version of another key no later one has the last key
  pub other : (last : Option (List ℕ)) (x e : X) (xs : List X) → Behind last (x ∷ xs) → has_last_key entry last x ≡ false → slice_cmp nat_cmp (key_of e) (key_of x) ≢ Less → has_last_key entry last e ≡ false
  other None x e xs h f up = refl
  other (Some k) x e xs h f up = other_by k x e (slice_cmp nat_cmp (key_of x) k) refl h.0 f up

  -- of a version more
  agree_above : (last : Option (List ℕ)) (x : X) (before rest : List X) → is_below x ≡ false → Agree last before rest → Agree last (x ∷ before) rest
  agree_above last x before [] above all = tt
  agree_above last x before (e ∷ rest) above all =
      (all.0 ∙ sym (ap (λ b. (b && has_last_key entry (Some (key_of x)) e) || has_version entry s before e) above), agree_above last x before rest above all.1)

  last_same : (last : Option (List ℕ)) (x e : X) → has_last_key entry last x ≡ true → has_last_key entry last e ≡ has_last_key entry (Some (key_of x)) e
  last_same None x e h = absurd (cc)
  last_same (Some k) x e h = ap (λ l. is_eq (slice_cmp nat_cmp (key_of e) l)) (sym (last_is k x h))

  agree_again : (last : Option (List ℕ)) (x : X) (before rest : List X) → is_below x ≡ true → has_last_key entry last x ≡ true → Agree last before rest → Agree last (x ∷ before) rest
  agree_again last x before [] below again all = tt
  agree_again last x before (e ∷ rest) below again all = (
    let b = has_last_key entry last e in
        let same : b ≡ has_last_key entry (Some (key_of x)) e = last_same last x e again in
        sym (or_same b) ∙ ap (λ c. b || c) all.0 ∙ ap (λ c. c || has_version entry s before e) (same ∙ sym (ap (λ c. c && has_last_key entry (Some (key_of x)) e) below)),
    agree_again last x before rest below again all.1,
  )

  agree_fresh : (last : Option (List ℕ)) (x : X) (before rest xs : List X) → is_below x ≡ true → has_last_key entry last x ≡ false → Behind last (x ∷ xs) → Behind (Some (key_of x)) rest → Agree last before rest → Agree (Some (key_of x)) (x ∷ before) rest
  agree_fresh last x before [] xs below fresh h k all = tt
  agree_fresh last x before (e ∷ rest) xs below fresh h k all = (
    let b = has_last_key entry (Some (key_of x)) e in
        let none : has_version entry s before e ≡ false = sym all.0 ∙ other last x e xs h fresh k.0 in
        sym (or_false b) ∙ ap (λ c. b || c) (sym none) ∙ ap (λ c. (c && b) || has_version entry s before e) (sym below),
    agree_fresh last x before rest xs below fresh h k.1 all.1,
  )

  none_yet : (xs : List X) → Agree None [] xs
  none_yet [] = tt
  none_yet (x ∷ xs) = (refl, none_yet xs)

  s_same : (last : Option (List ℕ)) (before xs : List X) → IsInOrder cmp xs → Behind last xs → Agree last before xs → visible_from entry s last xs ≡ kept_after (is_shown entry s) before xs
  s_same last before [] up h all = refl
  s_same last before (x ∷ xs) up h all =
      let tail = tail_in_order (order entry [] 0) x xs up in
      let to = kept_after (is_shown entry s) (x ∷ before) xs in
      let go = visible_from entry s last xs in
      let gone = is_tombstone (entry x).key.value_type in
      let next = unless_deleted entry x (visible_from entry s (Some (key_of x)) xs) in
      let rest = λ (b v : Bool). cond (b && (not v && not gone)) (x ∷ to) to in
      elim (cases_Bool (is_below x)) [
        | inr above ↦ ap (λ b. cond (b && not (has_last_key entry last x)) next go) above
            ∙ s_same last (x ∷ before) xs tail (behind_rest last x xs h) (agree_above last x before xs above all.1)
            ∙ sym (ap (λ b. rest b (has_version entry s before x)) above)
        | inl below ↦ ap (λ b. cond (b && not (has_last_key entry last x)) next go) below
            ∙ elim (cases_Bool (has_last_key entry last x)) [
              | inl again ↦ ap (λ b. cond (not b) next go) again
                  ∙ s_same last (x ∷ before) xs tail (behind_rest last x xs h) (agree_again last x before xs below again all.1)
                  ∙ sym (ap (rest true) (sym all.0 ∙ again))
              | inr fresh ↦ ap (λ b. cond (not b) next go) fresh
                  ∙ left_out gone x (visible_from entry s (Some (key_of x)) xs) to
                  (s_same (Some (key_of x)) (x ∷ before) xs tail (behind_first x xs up) (agree_fresh last x before xs xs below fresh h (behind_first x xs up) all.1))
                  ∙ sym (ap (rest true) (sym all.0 ∙ fresh))
            ]
            ∙ sym (ap (λ b. rest b (has_version entry s before x)) below)
      ]

  -- a snapshot of an ordered list has the versions that pass the test
  pub snapshot-shown : (xs : List X) → IsInOrder cmp xs → snapshot entry s xs ≡ shown entry s xs
  snapshot-shown xs up = s_same None [] xs up tt (none_yet xs)
