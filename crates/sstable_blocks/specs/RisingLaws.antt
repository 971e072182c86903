-- Lists whose keys rise, and the items of one between two counts.
use Rattle.std.proofs.Common.{◌≡◌, ℕ, inl, inr, suc, ◌+◌, ◌-◌, Bool, true, false, cond, List, [], ◌∷◌, take, drop, refl, arith, sym, ◌∙◌, ap}
use Rattle.std.proofs.lemmas.Bool.{cases_Bool}
use Rattle.std.proofs.lemmas.Cmp.{upto, nat_list_cmp_total}
use Rattle.std.proofs.lemmas.List.Sums.{sum_by-cons}
use Rattle.std.specs.List.{count_by}
use Rattle.std.specs.Cmp.Lexicographic.{slice_cmp}
use Rattle.std.specs.Ordering.{nat_cmp, is_gt, is_lt, is_le, ordering_reverse}
use Rattle.std.specs.declared.cmp.Ordering.{Ordering}
use Rattle.std.specs.declared.cmp.Ordering.TheVariants.{Less, Equal, Greater}
use Rattle.std.specs.declared.ops.Bound.{Bound}
use Rattle.std.specs.declared.ops.Bound.TheVariants.{Included, Excluded, Unbounded}
use Rattle.sst_block_core.specs.Kind.{Kind, IsOrdered}
use Rattle.sstable_blocks.specs.Scans.{is_before, is_up_to}
use Rattle.sstable_blocks.specs.EndLaws.{turned}
use Rattle.sstable_blocks.specs.SearchLaws.{then_first}

-- a test that holds of a key holds of each key that is not greater
abbrev pub IsLower : (List ℕ → Bool) → Type 0
IsLower p = (a b : List ℕ) → is_gt (slice_cmp nat_cmp a b) ≡ false → p b ≡ true → p a ≡ true

le_of : (o : Ordering) → is_gt o ≡ false → is_le o ≡ true
le_of Less e = refl
le_of Equal e = refl
le_of Greater e = cc

not_gt : (o : Ordering) → is_le o ≡ true → is_gt o ≡ false
not_gt Less e = refl
not_gt Equal e = refl
not_gt Greater e = cc

gt_back : (o : Ordering) → is_lt o ≡ true → is_gt (ordering_reverse o) ≡ true
gt_back Less e = refl
gt_back Equal e = cc
gt_back Greater e = cc

back_gt : (o : Ordering) → is_lt o ≡ false → is_gt (ordering_reverse o) ≡ false
back_gt Less e = cc
back_gt Equal e = refl
back_gt Greater e = refl

-- keys at most another, and keys below another
lower_le : (k : List ℕ) → IsLower (λ key. is_le (slice_cmp nat_cmp key k))
lower_le k = λ a b less e.
    let o = nat_list_cmp_total in
    le_of (slice_cmp nat_cmp a k) (upto o a b k less (not_gt (slice_cmp nat_cmp b k) e))

lower_lt : (k : List ℕ) → IsLower (λ key. is_lt (slice_cmp nat_cmp key k))
lower_lt k = λ a b less e.
    let o = nat_list_cmp_total in
    elim (cases_Bool (is_lt (slice_cmp nat_cmp a k))) [
      | inl below ↦ below
      | inr other ↦ (
          let up : is_gt (slice_cmp nat_cmp k a) ≡ false = ap is_gt (o.antisymm k a) ∙ back_gt (slice_cmp nat_cmp a k) other in
          let wrong : is_gt (slice_cmp nat_cmp k b) ≡ false = upto o k a b up less in
          let right : is_gt (slice_cmp nat_cmp k b) ≡ true = ap is_gt (o.antisymm k b) ∙ gt_back (slice_cmp nat_cmp b k) e in
          let no : true ≡ false = sym right ∙ wrong in
          cc)
    ]

pub lower_before : (b : Bound (List ℕ)) → IsLower (is_before b)
lower_before (Included k) = lower_lt k
lower_before (Excluded k) = lower_le k
lower_before Unbounded = λ a b less e. e

pub lower_up_to : (b : Bound (List ℕ)) → IsLower (is_up_to b)
lower_up_to (Included k) = lower_le k
lower_up_to (Excluded k) = lower_lt k
lower_up_to Unbounded = λ a b less e. e

module _ {X : Type 0} (key : X → List ℕ) where
  -- no key is smaller than the one before
  abbrev pub KeysRise : List X → Type 0
  KeysRise [] = Unit {0}
  KeysRise (x ∷ []) = Unit {0}
  KeysRise (x ∷ y ∷ ys) = (is_gt (slice_cmp nat_cmp (key x) (key y)) ≡ false) × KeysRise (y ∷ ys)

  pub rise_tail : (x : X) (xs : List X) → KeysRise (x ∷ xs) → KeysRise xs
  rise_tail x [] h = tt
  rise_tail x (y ∷ ys) h = h.1

  abbrev pub counted : (List ℕ → Bool) → List X → ℕ
  counted p xs = count_by (λ x. p (key x)) xs

  pub counted-cons : (p : List ℕ → Bool) (x : X) (xs : List X) (b : Bool) → p (key x) ≡ b → counted p (x ∷ xs) ≡ cond b 1 0 + counted p xs
  counted-cons p x xs b e = sum_by-cons (λ y. cond (p (key y)) 1 0) x xs ∙ ap (λ t. cond t 1 0 + counted p xs) e

  -- a lower test that fails fails of all keys after
  pub falls : (p : List ℕ → Bool) → IsLower p → (x y : X) (ys : List X) → KeysRise (x ∷ y ∷ ys) → p (key x) ≡ false → p (key y) ≡ false
  falls p lower x y ys h e = elim (cases_Bool (p (key y))) [
    | inl holds ↦ (let no : true ≡ false = sym (lower (key x) (key y) h.0 holds) ∙ e in cc)
    | inr fails ↦ fails
  ]

  pub none_counted : (p : List ℕ → Bool) → IsLower p → (x : X) (xs : List X) → KeysRise (x ∷ xs) → p (key x) ≡ false → counted p xs ≡ 0
  none_counted p lower x [] h e = refl
  none_counted p lower x (y ∷ ys) h e =
      let fails = falls p lower x y ys h e in
      counted-cons p y ys false fails ∙ ap (λ n. 0 + n) (none_counted p lower y ys h.1 fails)

  -- the window between two counts
  abbrev pub between : ℕ → ℕ → List X → List X
  between lo hi xs = take (hi - lo) (drop lo xs)

  pub between-more : (lo hi : ℕ) (x : X) (xs : List X) → between (1 + lo) (1 + hi) (x ∷ xs) ≡ between lo hi xs
  between-more lo hi x xs =
      let less : (1 + hi) - (1 + lo) ≡ hi - lo = omega arith in
      let next : 1 + lo ≡ suc lo = omega arith in
      ap (λ n. take n (drop (1 + lo) (x ∷ xs))) less ∙ ap (λ n. take (hi - lo) (drop n (x ∷ xs))) next

  pub between-none : (lo : ℕ) (xs : List X) → between lo 0 xs ≡ []
  between-none lo xs = let none : 0 - lo ≡ 0 = omega arith in ap (λ n. take n (drop lo xs)) none

  pub between-first : (hi : ℕ) (x : X) (xs : List X) → between 0 (1 + hi) (x ∷ xs) ≡ x ∷ between 0 hi xs
  between-first hi x xs =
      let next : (1 + hi) - 0 ≡ suc (hi - 0) = omega arith in
      ap (λ n. take n (x ∷ xs)) next

-- the keys of an ordered list rise
pub ordered_rise : {X : Type 0} (kind : Kind X) (xs : List X) → IsOrdered kind xs → KeysRise kind.key xs
ordered_rise kind [] h = tt
ordered_rise kind (x ∷ []) h = tt
ordered_rise kind (x ∷ y ∷ ys) h =
    let o = nat_list_cmp_total in
    let k = then_first (slice_cmp nat_cmp (kind.key y) (kind.key x)) (nat_cmp (kind.seqno x) (kind.seqno y)) h.0 in
    (ap is_gt (o.antisymm (kind.key x) (kind.key y)) ∙ turned (slice_cmp nat_cmp (kind.key y) (kind.key x)) k, ordered_rise kind (y ∷ ys) h.1)
