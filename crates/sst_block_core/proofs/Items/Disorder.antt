-- The first item that sorts before its predecessor.
use Rattle.std.proofs.Common.{◌≡◌, ◌≢◌, ℕ, ◌+◌, ◌<◌, ◌≤◌, zero, suc, List, [], ◌∷◌, length, get_or, take, drop, arith, sym, ◌∙◌, ap, refl, true, false, Bool, is_lt, add-one, drop-cons}
use Rattle.std.specs.declared.cmp.Ordering.{Ordering}
use Rattle.std.specs.declared.cmp.Ordering.TheVariants.{Less}
use Rattle.std.specs.Prelude.{Option, Some, None, MatchOption}
use Rattle.sst_base.specs.Entry.{Entry}
use Rattle.sst_block_core.specs.Kind.{item_cmp, IsOrdered}
use Rattle.sst_block_core.specs.Entries.{entries}
use Rattle.sst_block_core.specs.Disorder.{disorder_from}
use Rattle.sst_base.specs.TestLaws.{lt_is, not_lt, is_not_lt}

pub disorder-short : (i : ℕ) (items : List Entry) → length items ≤ 1 → disorder_from i items ≡ None
unfolding disorder_from
disorder-short i [] h = refl
disorder-short i (x ∷ []) h = refl
disorder-short i (x ∷ y ∷ items) h = absurd (omega arith)

disorder-here : (i : ℕ) (x y : Entry) (items : List Entry) → is_lt (item_cmp entries y x) ≡ true → disorder_from i (x ∷ y ∷ items) ≡ Some (i + 1)
unfolding disorder_from
disorder-here i x y items h = rw h refl

disorder-later : (i : ℕ) (x y : Entry) (items : List Entry) → is_lt (item_cmp entries y x) ≡ false → disorder_from i (x ∷ y ∷ items) ≡ disorder_from (i + 1) (y ∷ items)
unfolding disorder_from
disorder-later i x y items h = rw h refl

-- the two items at two neighbouring indexes, and the others
two : (items : List Entry) (j i : ℕ) (x y : Entry) → i ≡ suc j → i < length items → x ≡ get_or items j x → y ≡ get_or items i y → drop j items ≡ x ∷ y ∷ drop (suc i) items
two items j i x y e h p q =
    drop-cons items j x (omega arith)
    ∙ ap (λ z. z ∷ drop (suc j) items) (sym p)
    ∙ ap (λ zs. x ∷ zs) (ap (λ k. drop k items) (sym e) ∙ drop-cons items i y h ∙ ap (λ z. z ∷ drop (suc i) items) (sym q))

-- the item at an index, and those after it
one : (items : List Entry) (i : ℕ) (y : Entry) → i < length items → y ≡ get_or items i y → drop i items ≡ y ∷ drop (suc i) items
one items i y h q = drop-cons items i y h ∙ ap (λ z. z ∷ drop (suc i) items) (sym q)

pub disorder-step : (items : List Entry) (j i : ℕ) (x y : Entry) → i ≡ suc j → i < length items → x ≡ get_or items j x → y ≡ get_or items i y → is_lt (item_cmp entries y x) ≡ false
    → disorder_from j (drop j items) ≡ disorder_from i (drop i items)
disorder-step items j i x y e h p q le =
    ap (disorder_from j) (two items j i x y e h p q)
    ∙ disorder-later j x y (drop (suc i) items) le
    ∙ ap (λ k. disorder_from k (y ∷ drop (suc i) items)) (add-one j ∙ sym e)
    ∙ ap (disorder_from i) (sym (one items i y h q))

pub disorder-found : (items : List Entry) (j i : ℕ) (x y : Entry) → i ≡ suc j → i < length items → x ≡ get_or items j x → y ≡ get_or items i y → is_lt (item_cmp entries y x) ≡ true
    → disorder_from j (drop j items) ≡ Some i
disorder-found items j i x y e h p q less =
    ap (disorder_from j) (two items j i x y e h p q)
    ∙ disorder-here j x y (drop (suc i) items) less
    ∙ ap Some (add-one j ∙ sym e)

-- an ordered list has no such item
pub disorder-ordered : (i : ℕ) (items : List Entry) → IsOrdered entries items → disorder_from i items ≡ None
disorder-ordered i [] h = disorder-short i [] (omega arith)
disorder-ordered i (x ∷ []) h = disorder-short i (x ∷ []) (omega arith)
disorder-ordered i (x ∷ y ∷ items) h =
    disorder-later i x y items (is_not_lt (item_cmp entries y x) h.0) ∙ disorder-ordered (i + 1) (y ∷ items) h.1

-- the index of such an item: the items before it are in order, and it sorts before its predecessor
pub record IsFirstDisorder (n : ℕ) (items : List Entry) (i : ℕ) : Type 0 where
  pub behind : n + 1 ≤ i
  pub within : i < n + length items
  pub before : (k : ℕ) → i ≡ n + k → IsOrdered entries (take k items)
  pub at : (k : ℕ) → i ≡ n + k → IsOrdered entries (take (suc k) items) → ⊥

before-later : (x y : Entry) (items : List Entry) (k : ℕ) → item_cmp entries y x ≢ Less → 1 ≤ k → IsOrdered entries (take k (y ∷ items)) → IsOrdered entries (take (suc k) (x ∷ y ∷ items))
before-later x y items zero ne h o = absurd (omega arith)
before-later x y items (suc k) ne h o = (ne, o)

at-later : (x y : Entry) (items : List Entry) (k : ℕ) → IsOrdered entries (take (suc (suc k)) (x ∷ y ∷ items)) → IsOrdered entries (take (suc k) (y ∷ items))
at-later x y items k o = o.1

first-later : (n : ℕ) (x y : Entry) (items : List Entry) (i : ℕ) → item_cmp entries y x ≢ Less → IsFirstDisorder (n + 1) (y ∷ items) i → IsFirstDisorder n (x ∷ y ∷ items) i
first-later n x y items i ne r = record {
  behind = omega (arith, r.behind);
  within = omega (arith, r.within);
  before = before;
  at = at;
}
  where
    before : (k : ℕ) → i ≡ n + k → IsOrdered entries (take k (x ∷ y ∷ items))
    before zero e = tt
    before (suc k) e = before-later x y items k ne (omega (arith, r.behind)) (r.before k (omega arith))

    at : (k : ℕ) → i ≡ n + k → IsOrdered entries (take (suc k) (x ∷ y ∷ items)) → ⊥
    at zero e o = absurd (omega (arith, r.behind))
    at (suc k) e o = r.at k (omega arith) (at-later x y items k o)

first-here : (n : ℕ) (x y : Entry) (items : List Entry) → item_cmp entries y x ≡ Less → IsFirstDisorder n (x ∷ y ∷ items) (n + 1)
first-here n x y items less = record {
  behind = omega arith;
  within = omega arith;
  before = before;
  at = at;
}
  where
    before : (k : ℕ) → n + 1 ≡ n + k → IsOrdered entries (take k (x ∷ y ∷ items))
    before zero e = tt
    before (suc zero) e = tt
    before (suc (suc k)) e = absurd (omega arith)

    at : (k : ℕ) → n + 1 ≡ n + k → IsOrdered entries (take (suc k) (x ∷ y ∷ items)) → ⊥
    at zero e o = absurd (omega arith)
    at (suc k) e o = o.0 less

law-later : (n : ℕ) (x y : Entry) (items : List Entry) → item_cmp entries y x ≢ Less → (o : Option ℕ) → MatchOption o (IsOrdered entries (y ∷ items)) (IsFirstDisorder (n + 1) (y ∷ items))
    → MatchOption o (IsOrdered entries (x ∷ y ∷ items)) (IsFirstDisorder n (x ∷ y ∷ items))
law-later n x y items ne None r = (ne, r)
law-later n x y items ne (Some i) r = first-later n x y items i ne r

law-by : (n : ℕ) (x y : Entry) (items : List Entry) (b : Bool) → is_lt (item_cmp entries y x) ≡ b
    → MatchOption (disorder_from (n + 1) (y ∷ items)) (IsOrdered entries (y ∷ items)) (IsFirstDisorder (n + 1) (y ∷ items))
    → MatchOption (disorder_from n (x ∷ y ∷ items)) (IsOrdered entries (x ∷ y ∷ items)) (IsFirstDisorder n (x ∷ y ∷ items))
law-by n x y items true e r = rw (disorder-here n x y items e) (first-here n x y items (lt_is (item_cmp entries y x) e))
law-by n x y items false e r =
    rw (disorder-later n x y items e) (law-later n x y items (not_lt (item_cmp entries y x) e) (disorder_from (n + 1) (y ∷ items)) r)

-- the definition: an ordered list has no such item, and of any other list this is the first
disorder-law : (n : ℕ) (items : List Entry) → MatchOption (disorder_from n items) (IsOrdered entries items) (IsFirstDisorder n items)
disorder-law n [] = rw (disorder-short n [] (omega arith)) tt
disorder-law n (x ∷ []) = rw (disorder-short n (x ∷ []) (omega arith)) tt
disorder-law n (x ∷ y ∷ items) = law-by n x y items (is_lt (item_cmp entries y x)) refl (disorder-law (n + 1) (y ∷ items))

-- the same condition on equal values
pub test-along : {K : Type 0} (cmp : K → K → Ordering) (b : Bool) (x y a d : K) → a ≡ x → d ≡ y → b ≡ is_lt (cmp a d) → is_lt (cmp x y) ≡ b
test-along cmp b x y a d e f h = cc

-- the same for the index that a function returns
pub first-found : (items : List Entry) (i : ℕ) → Some i ≡ disorder_from 0 items → IsFirstDisorder 0 items i
first-found items i e = let law = disorder-law 0 items in rw (sym e) at law

pub ordered-found : (items : List Entry) → None ≡ disorder_from 0 items → IsOrdered entries items
ordered-found items e = let law = disorder-law 0 items in rw (sym e) at law

pub not_ordered-found : (items : List Entry) (i : ℕ) → Some i ≡ disorder_from 0 items → IsOrdered entries items → ⊥
not_ordered-found items i e o = let wrong = e ∙ disorder-ordered 0 items o in cc
