-- What a snapshot of an ordered list has of a key: its first version below the number, unless that is a tombstone.
use Rattle.std.proofs.Common.{◌≡◌, ◌≢◌, ℕ, Bool, true, false, not, cond, List, [], ◌∷◌, Option, Some, None, refl, sym, ap, ◌∙◌, inl, inr}
use Rattle.std.proofs.lemmas.Bool.{cases_Bool}
use Rattle.std.specs.Prelude.{nat_lt, ◌&&◌}
use Rattle.std.specs.Cmp.Lexicographic.{slice_cmp}
use Rattle.std.specs.Ordering.{nat_cmp, is_eq, ordering_then, ordering_reverse}
use Rattle.std.specs.declared.cmp.Ordering.{Ordering}
use Rattle.std.specs.declared.cmp.Ordering.TheVariants.{Less, Equal, Greater}
use Rattle.std.proofs.lemmas.Cmp.{nat_list_cmp_total}
use Rattle.sstable_blocks.specs.Prelude.{Entry, versions_cmp, IsInOrder, is_tombstone}
use Rattle.sstable_blocks.specs.BlockLaws.{slice_cmp-equal, versions_cmp_total, keys_equal}
use Rattle.sst_merge.specs.Snapshot.{visible_from, snapshot, is_newest, has_last_key}
use Rattle.sst_merge.specs.SnapshotLaws.{visible-passed, visible-newest}
use Rattle.sst_sources.specs.MergeReads.{ge_trans}
use Rattle.sst_sources.specs.ListLaws.{first, first_hit, first_miss}
use Rattle.sstable_blocks.specs.EndLaws.{tail_in_order}

pub both_false : (a b : Bool) → b ≡ false → (a && b) ≡ false
both_false true b h = h
both_false false b h = refl

not_eq : (o : Ordering) → o ≡ Greater → is_eq o ≡ false
not_eq o e = ap is_eq e

pub both_true : (a b : Bool) → a ≡ true → (a && b) ≡ b
both_true a b h = ap (λ c. c && b) h

pub first_false : (a b : Bool) → a ≡ false → (a && b) ≡ false
first_false a b h = ap (λ c. c && b) h

module _ {X : Type 0} (entry : X → Entry) (k : List ℕ) (seqno : ℕ) where
  abbrev pub key : X → List ℕ
  key x = (entry x).key.user_key

  abbrev pub number : X → ℕ
  number x = (entry x).key.seqno

  -- does it have the key?
  abbrev pub has : X → Bool
  has x = is_eq (slice_cmp nat_cmp (key x) k)

  -- is it a version of the key below the number?
  abbrev pub is_match : X → Bool
  is_match x = nat_lt (number x) seqno && has x

  -- none where it is a tombstone
  abbrev pub unless_hidden : Option X → Option X
  unless_hidden None = None
  unless_hidden (Some x) = cond (is_tombstone (entry x).key.value_type) None (Some x)

  pub has_key : (x : X) → has x ≡ true → key x ≡ k
  has_key x h = keys_equal (key x) k h

  abbrev pub NoneHas : List X → Type 0
  NoneHas [] = Unit {0}
  NoneHas (x ∷ xs) = (has x ≡ false) × NoneHas xs

  -- a list without the key shows none of it
  v1 : (last : Option (List ℕ)) (xs : List X) → NoneHas xs → first has (visible_from entry seqno last xs) ≡ None
  v1 last [] h = refl
  v1 last (x ∷ xs) h = elim (cases_Bool (is_newest entry seqno last x)) [
    | inl newest ↦ ap (first has) (visible-newest entry seqno last x xs newest) ∙ elim (cases_Bool (is_tombstone (entry x).key.value_type)) [
      | inl gone ↦ ap (λ b. first has (cond b (visible_from entry seqno (Some (key x)) xs) (x ∷ visible_from entry seqno (Some (key x)) xs))) gone ∙ v1 (Some (key x)) xs h.1
      | inr stays ↦ ap (λ b. first has (cond b (visible_from entry seqno (Some (key x)) xs) (x ∷ visible_from entry seqno (Some (key x)) xs))) stays ∙ first_miss has x _ h.0 ∙ v1 (Some (key x)) xs h.1
    ]
    | inr passed ↦ ap (first has) (visible-passed entry seqno last x xs passed) ∙ v1 last xs h.1
  ]

  -- the order of versions
  abbrev pub order : X → X → Ordering
  order = versions_cmp key number

  before : (x l : X) → slice_cmp nat_cmp (key x) (key l) ≡ Less → order x l ≡ Less
  before x l e = ap (λ o. ordering_then o (nat_cmp (number l) (number x))) e

  pub after_by : (x l : X) (o : Ordering) → slice_cmp nat_cmp (key x) k ≡ o → key l ≡ k → has x ≡ false → order x l ≢ Less → slice_cmp nat_cmp k (key x) ≡ Less
  after_by x l Less e same other up = absurd (up (before x l (ap (slice_cmp nat_cmp (key x)) same ∙ e)))
  after_by x l Equal e same other up = absurd (let f : true ≡ false = sym (ap is_eq e) ∙ other in cc)
  after_by x l Greater e same other up = nat_list_cmp_total.antisymm k (key x) ∙ ap ordering_reverse e

  further_by : (x y : X) (o : Ordering) → slice_cmp nat_cmp (key x) (key y) ≡ o → order y x ≢ Less → slice_cmp nat_cmp k (key x) ≡ Less → slice_cmp nat_cmp k (key y) ≡ Less
  further_by x y Less e up past = nat_list_cmp_total.trans k (key x) (key y) past e
  further_by x y Equal e up past = ap (slice_cmp nat_cmp k) (sym ((slice_cmp-equal (key x) (key y)).0 e)) ∙ past
  further_by x y Greater e up past = absurd (up (before y x (nat_list_cmp_total.antisymm (key y) (key x) ∙ ap ordering_reverse e)))

  past_not : (x : X) → slice_cmp nat_cmp k (key x) ≡ Less → has x ≡ false
  past_not x e = not_eq (slice_cmp nat_cmp (key x) k) (nat_list_cmp_total.antisymm (key x) k ∙ ap ordering_reverse e)

  -- past the key none has it
  pub none_behind : (x : X) (xs : List X) → IsInOrder order (x ∷ xs) → slice_cmp nat_cmp k (key x) ≡ Less → NoneHas xs
  none_behind x [] up past = tt
  none_behind x (y ∷ ys) up past =
      let there = further_by x y (slice_cmp nat_cmp (key x) (key y)) refl up.0 past in
      (past_not y there, none_behind y ys up.1 there)

  pub skip : (l x : X) (xs : List X) → IsInOrder order (l ∷ x ∷ xs) → IsInOrder order (l ∷ xs)
  skip l x [] up = tt
  skip l x (y ∷ ys) up = (ge_trans order (versions_cmp_total key number) y x l up.1.0 up.0, up.1.1)

  -- after a version of the key that was taken, no more of it is given
  v2 : (l : X) (xs : List X) → has l ≡ true → IsInOrder order (l ∷ xs) → first has (visible_from entry seqno (Some (key l)) xs) ≡ None
  v2 l [] mine up = refl
  v2 l (x ∷ xs) mine up = elim (cases_Bool (has x)) [
    | inl same ↦ (
        let repeated : has_last_key entry (Some (key l)) x ≡ true = ap (λ b. is_eq (slice_cmp nat_cmp (key x) b)) (has_key l mine) ∙ same in
        let passed : is_newest entry seqno (Some (key l)) x ≡ false = both_false (nat_lt (number x) seqno) (not (has_last_key entry (Some (key l)) x)) (ap not repeated) in
        ap (first has) (visible-passed entry seqno (Some (key l)) x xs passed) ∙ v2 l xs mine (skip l x xs up))
    | inr other ↦ v1 (Some (key l)) (x ∷ xs) (other, none_behind x xs up.1 (after_by x l (slice_cmp nat_cmp (key x) k) refl (has_key l mine) other up.0))
  ]

  -- the last key is another
  abbrev pub IsOther : Option (List ℕ) → Type 0
  IsOther None = Unit {0}
  IsOther (Some l) = is_eq (slice_cmp nat_cmp l k) ≡ false

  turned : (l : List ℕ) → is_eq (slice_cmp nat_cmp l k) ≡ false → is_eq (slice_cmp nat_cmp k l) ≡ false
  turned l o = elim (cases_Bool (is_eq (slice_cmp nat_cmp k l))) [
    | inl same ↦ absurd (let e : true ≡ false = sym (ap is_eq ((slice_cmp-equal l k).1 (sym (keys_equal k l same)))) ∙ o in cc)
    | inr other ↦ other
  ]

  pub fresh : (last : Option (List ℕ)) (x : X) → IsOther last → has x ≡ true → has_last_key entry last x ≡ false
  fresh None x o mine = refl
  fresh (Some l) x o mine = ap (λ b. is_eq (slice_cmp nat_cmp b l)) (has_key x mine) ∙ turned l o

  v3 : (last : Option (List ℕ)) (xs : List X) → IsOther last → IsInOrder order xs → first has (visible_from entry seqno last xs) ≡ unless_hidden (first is_match xs)
  v3 last [] o up = refl
  v3 last (x ∷ xs) o up = elim (cases_Bool (has x)) [
    | inl mine ↦ elim (cases_Bool (nat_lt (number x) seqno)) [
      | inl below ↦ (
          let newest : is_newest entry seqno last x ≡ true = both_true (nat_lt (number x) seqno) (not (has_last_key entry last x)) below ∙ ap not (fresh last x o mine) in
          let hits : is_match x ≡ true = both_true (nat_lt (number x) seqno) (has x) below ∙ mine in
          let rest = visible_from entry seqno (Some (key x)) xs in
          ap (first has) (visible-newest entry seqno last x xs newest)
          ∙ elim (cases_Bool (is_tombstone (entry x).key.value_type)) [
            | inl gone ↦ ap (λ b. first has (cond b rest (x ∷ rest))) gone ∙ v2 x xs mine up ∙ ap (λ b. cond b None (Some x)) (sym gone)
            | inr stays ↦ ap (λ b. first has (cond b rest (x ∷ rest))) stays ∙ first_hit has x rest mine ∙ ap (λ b. cond b None (Some x)) (sym stays)
          ]
          ∙ ap unless_hidden (sym (first_hit is_match x xs hits)))
      | inr above ↦ (
          let passed : is_newest entry seqno last x ≡ false = first_false (nat_lt (number x) seqno) (not (has_last_key entry last x)) above in
          let miss : is_match x ≡ false = first_false (nat_lt (number x) seqno) (has x) above in
          ap (first has) (visible-passed entry seqno last x xs passed) ∙ v3 last xs o (tail_in_order order x xs up) ∙ ap unless_hidden (sym (first_miss is_match x xs miss)))
    ]
    | inr other ↦ (
        let miss : is_match x ≡ false = both_false (nat_lt (number x) seqno) (has x) other in
        let rest = visible_from entry seqno (Some (key x)) xs in
        elim (cases_Bool (is_newest entry seqno last x)) [
          | inl newest ↦ ap (first has) (visible-newest entry seqno last x xs newest)
              ∙ elim (cases_Bool (is_tombstone (entry x).key.value_type)) [
                | inl gone ↦ ap (λ b. first has (cond b rest (x ∷ rest))) gone
                | inr stays ↦ ap (λ b. first has (cond b rest (x ∷ rest))) stays ∙ first_miss has x rest other
              ]
              ∙ v3 (Some (key x)) xs other (tail_in_order order x xs up) ∙ ap unless_hidden (sym (first_miss is_match x xs miss))
          | inr passed ↦ ap (first has) (visible-passed entry seqno last x xs passed) ∙ v3 last xs o (tail_in_order order x xs up) ∙ ap unless_hidden (sym (first_miss is_match x xs miss))
        ])
  ]

  -- a snapshot of an ordered list has of a key its first version below the number, unless that is a tombstone
  pub snapshot-first_match : (xs : List X) → IsInOrder order xs → first has (snapshot entry seqno xs) ≡ unless_hidden (first is_match xs)
  snapshot-first_match xs up = v3 None xs tt up
