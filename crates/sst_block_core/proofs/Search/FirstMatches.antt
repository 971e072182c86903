-- The first item of a key below a sequence number, by a search.
use Rattle.std.proofs.Common.{◌⊎◌, ◌≡◌, ℕ, zero, suc, ◌<◌, ◌≤◌, ◌&&◌, inl, inr, Bool, true, false, cond, ltb, List, [], ◌∷◌, length, filter, Option, Some, None, refl, sym, ap, ◌∙◌, arith}
use Rattle.std.specs.List.{slice_get}
use Rattle.std.specs.Option.{option_map}
use Rattle.std.specs.Ordering.{nat_cmp, is_eq}
use Rattle.std.specs.Cmp.Lexicographic.{slice_cmp}
use Rattle.std.specs.declared.cmp.Ordering.{Ordering}
use Rattle.std.specs.declared.cmp.Ordering.TheVariants.{Less, Equal, Greater}
use Rattle.std.proofs.lemmas.Option.{slice_get_within, slice_get_cases}
use Rattle.std.proofs.lemmas.Bool.{cases_lt, cases_Bool, false≢true, le-leb}
use Rattle.std.proofs.lemmas.Bool.Decides.{nat_tests}
use Rattle.sst_block_core.specs.Kind.{Kind, IsOrdered}
use Rattle.sst_block_core.specs.Window.{passes_cmp, count_passed, is_version}
use Rattle.sst_block_core.proofs.Search.Cuts.{cut_ordered, some_some}
use Rattle.std.proofs.Math.Bool.{and-false}
use Rattle.sst_block_core.specs.ListLaws.{first_filter, filter_none}
use Rattle.sst_block_core.specs.VersionLaws.{keys_equal, version_passed}

-- the first that does
filter_at : {X : Type 0} (test : X → Bool) (items : List X) (c : ℕ) (x : X) → slice_get items c ≡ Some x → test x ≡ true → ((j : ℕ) (y : X) → j < c → slice_get items j ≡ Some y → test y ≡ false) → slice_get (filter test items) 0 ≡ Some x
filter_at test [] c x at good before = cc
filter_at test (z ∷ zs) zero x at good before =
    let same : z ≡ x = some_some at in
    first_filter test z zs ∙ ap (λ t. cond t (Some z) (slice_get (filter test zs) 0)) (ap test same ∙ good) ∙ ap (λ y. Some y) same
filter_at test (z ∷ zs) (suc c) x at good before =
    first_filter test z zs ∙ ap (λ t. cond t (Some z) (slice_get (filter test zs) 0)) (before 0 z (omega arith) refl)
    ∙ filter_at test zs c x at good (λ j y h e. before (suc j) y (omega arith) e)

-- what is not passed is a version exactly if it has the key
version_not_passed : (o : Ordering) (seqno s : ℕ) → passes_cmp o (Some seqno) s ≡ false → (ltb s seqno && is_eq o) ≡ is_eq o
version_not_passed Less seqno s h = cc
version_not_passed Equal seqno s h = grind (arith, nat_tests)
version_not_passed Greater seqno s h = grind (arith, nat_tests)

-- above the needle, by the bound "at most"
above : (o : Ordering) (s : ℕ) → passes_cmp o (Some 0) s ≡ false → is_eq o ≡ false
above Less s h = cc
above Equal s h = absurd (false≢true (sym h ∙ le-leb 0 s (omega arith)))
above Greater s h = refl

not_above : (o : Ordering) (seqno s t : ℕ) → passes_cmp o (Some seqno) s ≡ false → is_eq o ≡ false → passes_cmp o (Some 0) t ≡ false
not_above Less seqno s t h e = cc
not_above Equal seqno s t h e = cc
not_above Greater seqno s t h e = refl

-- what is kept where a test says so
pub kept_if : {X P : Type 0} (f : P → X) (p : P) (b : Bool) (found : Option X) (r : Option P) → (b ≡ true → Some (f p) ≡ found) → (b ≡ false → None ≡ found) → r ≡ cond b (Some p) None → option_map f r ≡ found
kept_if f p true found r good bad e = ap (option_map f) e ∙ good refl
kept_if f p false found r good bad e = ap (option_map f) e ∙ bad refl

module _ {X : Type 0} (kind : Kind X) (needle : List ℕ) (seqno : ℕ) (items : List X) (ordered : IsOrdered kind items) where
  before : (j : ℕ) (y : X) → j < count_passed kind needle (Some seqno) items → slice_get items j ≡ Some y → is_version kind needle seqno y ≡ false
  before j y h at = version_passed (slice_cmp nat_cmp (kind.key y) needle) seqno (kind.seqno y) ((cut_ordered kind needle (Some seqno) items ordered).first j y h at)

  -- where all pass there is none
  pub none_left : length items ≤ count_passed kind needle (Some seqno) items → None ≡ slice_get (filter (is_version kind needle seqno) items) 0
  none_left h = sym (filter_none (is_version kind needle seqno) items (λ j y at. let w = slice_get_within items j y at in before j y (omega (arith, w, h)) at))

  module _ (x : X) (at : slice_get items (count_passed kind needle (Some seqno) items) ≡ Some x) where
    stops : passes_cmp (slice_cmp nat_cmp (kind.key x) needle) (Some seqno) (kind.seqno x) ≡ false
    stops = (cut_ordered kind needle (Some seqno) items ordered).others _ x (omega arith) at

    -- the first that doesn't pass, if it has the key
    pub stops_at : is_eq (slice_cmp nat_cmp (kind.key x) needle) ≡ true → Some x ≡ slice_get (filter (is_version kind needle seqno) items) 0
    stops_at e = sym (filter_at (is_version kind needle seqno) items _ x at (version_not_passed (slice_cmp nat_cmp (kind.key x) needle) seqno (kind.seqno x) stops ∙ e) before)

    -- none, if it has another
    pub stops_above : is_eq (slice_cmp nat_cmp (kind.key x) needle) ≡ false → None ≡ slice_get (filter (is_version kind needle seqno) items) 0
    stops_above e =
        let c = count_passed kind needle (Some seqno) items in
        let m = count_passed kind needle (Some 0) items in
        let cut = cut_ordered kind needle (Some 0) items ordered in
        let low : m ≤ c = elim (cases_lt c m) [
          | inl less ↦ absurd (false≢true (sym (not_above (slice_cmp nat_cmp (kind.key x) needle) seqno (kind.seqno x) (kind.seqno x) stops e) ∙ cut.first c x less at))
          | inr ge ↦ ge
        ] in
        sym (filter_none (is_version kind needle seqno) items (λ j y here. elim (cases_lt j c) [
          | inl less ↦ before j y less here
          | inr ge ↦ (
              let gone = above (slice_cmp nat_cmp (kind.key y) needle) (kind.seqno y) (cut.others j y (omega (arith, low, ge)) here) in
              ap (λ t. ltb (kind.seqno y) seqno && t) gone ∙ and-false (ltb (kind.seqno y) seqno))
        ]))

  -- none, where the first that doesn't pass, if there is one, has another key
  pub none_at : ((x : X) → slice_get items (count_passed kind needle (Some seqno) items) ≡ Some x → is_eq (slice_cmp nat_cmp (kind.key x) needle) ≡ false) → None ≡ slice_get (filter (is_version kind needle seqno) items) 0
  none_at other = elim (slice_get_cases items (count_passed kind needle (Some seqno) items)).1 [
    | inl at ↦ stops_above at.0 at.2 (other at.0 at.2)
    | inr past ↦ none_left past.0
  ]

  -- where all items with the key are between two indices, no item before the first or after the second is a version
  module _ (low high : ℕ) (alone : (j : ℕ) (y : X) → slice_get items j ≡ Some y → kind.key y ≡ needle → (low ≤ j) × (j < high)) where
    outside : (j : ℕ) (y : X) → slice_get items j ≡ Some y → ((low ≤ j) × (j < high) → ⊥) → is_version kind needle seqno y ≡ false
    outside j y at out = elim (cases_Bool (is_eq (slice_cmp nat_cmp (kind.key y) needle))) [
      | inl same ↦ absurd (out (alone j y at (keys_equal (kind.key y) needle same)))
      | inr other ↦ ap (λ t. ltb (kind.seqno y) seqno && t) other ∙ and-false (ltb (kind.seqno y) seqno)
    ]

    -- there is none, where all of these pass
    pub none_between : (end : ℕ) → (length items ≤ end) ⊎ (high ≤ end) → end ≤ count_passed kind needle (Some seqno) items → None ≡ slice_get (filter (is_version kind needle seqno) items) 0
    none_between end reach h = sym (filter_none (is_version kind needle seqno) items (λ j y at. elim (cases_lt j end) [
      | inl less ↦ before j y (omega (arith, less, h)) at
      | inr ge ↦ outside j y at (λ k. let w = slice_get_within items j y at in elim reach [ inl all ↦ omega (arith, all, ge, w) | inr some ↦ omega (arith, some, ge, k) ])
    ]))

    -- where the first of these doesn't pass, it is the first, if it has the key
    module _ (x : X) (at : slice_get items low ≡ Some x) (stopped : passes_cmp (slice_cmp nat_cmp (kind.key x) needle) (Some seqno) (kind.seqno x) ≡ false) where
      pub first_of_these : is_eq (slice_cmp nat_cmp (kind.key x) needle) ≡ true → Some x ≡ slice_get (filter (is_version kind needle seqno) items) 0
      first_of_these e = sym (filter_at (is_version kind needle seqno) items low x at (version_not_passed (slice_cmp nat_cmp (kind.key x) needle) seqno (kind.seqno x) stopped ∙ e)
          (λ j y less there. outside j y there (λ k. omega (arith, less, k))))

      -- and else there is none
      pub none_of_these : is_eq (slice_cmp nat_cmp (kind.key x) needle) ≡ false → None ≡ slice_get (filter (is_version kind needle seqno) items) 0
      none_of_these e =
          let cut = cut_ordered kind needle (Some 0) items ordered in
          let m = count_passed kind needle (Some 0) items in
          let low_enough : m ≤ low = elim (cases_lt low m) [
            | inl less ↦ absurd (false≢true (sym (not_above (slice_cmp nat_cmp (kind.key x) needle) seqno (kind.seqno x) (kind.seqno x) stopped e) ∙ cut.first low x less at))
            | inr ge ↦ ge
          ] in
          sym (filter_none (is_version kind needle seqno) items (λ j y here. elim (cases_lt j low) [
            | inl less ↦ outside j y here (λ k. omega (arith, less, k))
            | inr ge ↦ (
                let gone = above (slice_cmp nat_cmp (kind.key y) needle) (kind.seqno y) (cut.others j y (omega (arith, low_enough, ge)) here) in
                ap (λ t. ltb (kind.seqno y) seqno && t) gone ∙ and-false (ltb (kind.seqno y) seqno))
          ]))
