-- Searches over a table of heads.
use Rattle.std.proofs.Common.{◌≡◌, ◌≢◌, ◌++◌, ◌∷◌, IfSome, refl, subst, ◌<◌, ◌≤◌, ◌-◌, ◌/◌, ◌^◌, ℕ, List, [], length, drop, slice_index, nat_lt, zero, suc, ◌+◌, Bool, true, false, inl, inr, ◌⊎◌, if◌then◌else◌, Option, Some, None, slice_get, ap, sym, ◌∙◌, arith, rules}
use Rattle.std.specs.declared.cmp.Ordering.{Ordering}
use Rattle.std.specs.Ordering.{nat_cmp, ordering_then}
use Rattle.std.specs.Cmp.Lexicographic.{slice_cmp}
use Rattle.std.proofs.lemmas.Bool.{cases_lt}
use Rattle.std.proofs.lemmas.Option.{slice_get_cases, slice_get_within}
use Rattle.sst_block_core.specs.declared.table.block.heads.Head.{Head}
use Rattle.sst_base.specs.Bytes.{IsBytes}
use Rattle.sst_base.specs.BytesLaws.{IsBytes-take, IsBytes-drop}
use Rattle.sst_base.specs.OrderLaws.{ordering_then_assoc}
use Rattle.sst_base.specs.KeyOrderLaws.{slice_cmp-equal}
use Rattle.std.specs.Cmp.{nat_cmp_is}
use Rattle.std.proofs.lemmas.List.{get_or_append_left, get_or_at, length_push}
use Rattle.sst_block_core.specs.Found.{IsRange, range_bytes}
use Rattle.sst_block_core.specs.Heads.{key_in, Begins, front, Table, IsHead, IsHeadTable, IsHeadPassed, IsHeadPassedBit, heads_before}
use Rattle.sst_block_core.proofs.Heads.Fronts.{fronts_decide, half_small}
use Rattle.std.specs.declared.cmp.Ordering.TheVariants.{Less, Equal, Greater}
use Rattle.sst_base.specs.Order.{versions_cmp, IsInOrder}
use Rattle.sst_block_core.specs.Passes.{last_passed}
use Rattle.sst_block_core.proofs.Check.PassSteps.{order_more, no_last}
use Rattle.sst_block_core.specs.Kind.{Kind}
use Rattle.sst_block_core.specs.Window.{passes_cmp, count_passed}
use Rattle.sst_block_core.proofs.Search.Cuts.{some_some, count_inside, passed_below, not_passed_above}

-- heads as items: of a kind without forms
abbrev pub as_items : List ℕ → Kind Head
as_items payload = record {
  key = key_in payload;
  seqno = λ h. h.seqno;
  plain = λ h. h;
  full = λ h. [];
  truncated = λ h n. [];
  full_at = λ bytes. None;
  truncated_at = λ base bytes. None;
}

-- which of two numbers that differ passes
by_numbers : (x y : ℕ) (from : Option ℕ) (seqno : ℕ) → x ≢ y → passes_cmp (nat_cmp x y) from seqno ≡ nat_lt x y
by_numbers x y from seqno ne = elim (cases_lt x y) [
  | inl less ↦
      let e : Less ≡ nat_cmp x y = nat_cmp_is x y Less less in
      let l : nat_lt x y ≡ true = search rules in ap (λ c. passes_cmp c from seqno) (sym e) ∙ sym l
  | inr ge ↦
      let e : Greater ≡ nat_cmp x y = nat_cmp_is x y Greater (omega (arith, ge, ne)) in
      let l : nat_lt x y ≡ false = search rules in ap (λ c. passes_cmp c from seqno) (sym e) ∙ sym l
]

pub slice_get_front : {X : Type 0} (xs : List X) (x : X) (k : ℕ) → k < length xs → slice_get (xs ++ x ∷ []) k ≡ slice_get xs k
slice_get_front [] x k h = absurd (omega arith)
slice_get_front (y ∷ ys) x zero h = refl
slice_get_front (y ∷ ys) x (suc k) h = slice_get_front ys x k (omega arith)

pub slice_get_last : {X : Type 0} (xs : List X) (x : X) (k : ℕ) → k ≡ length xs → slice_get (xs ++ x ∷ []) k ≡ Some x
slice_get_last [] x zero e = refl
slice_get_last [] x (suc k) e = absurd (omega arith)
slice_get_last (y ∷ ys) x zero e = absurd (omega arith)
slice_get_last (y ∷ ys) x (suc k) e = slice_get_last ys x k (omega arith)

-- a needle shorter than a prefix decides with it
pub shorter_decides : (p n rest : List ℕ) → length n < length p → slice_cmp nat_cmp (p ++ rest) n ≡ ordering_then (slice_cmp nat_cmp p n) (slice_cmp nat_cmp rest (drop (length p) n))
shorter_decides [] n rest h = absurd (omega arith)
shorter_decides (x ∷ p) [] rest h = refl
shorter_decides (x ∷ p) (y ∷ n) rest h =
    ap (ordering_then (nat_cmp x y)) (shorter_decides p n rest (omega arith)) ∙ ordering_then_assoc (nat_cmp x y) (slice_cmp nat_cmp p n) (slice_cmp nat_cmp rest (drop (length p) n))

pub shorter_differs : (p n : List ℕ) → length n < length p → slice_cmp nat_cmp p n ≡ Equal → length p ≤ length n
shorter_differs p n h e = let l : length p ≡ length n = ap length ((slice_cmp-equal p n).0 e) in omega (arith, l)

-- between two keys that begin with a prefix all keys do
pub begins_between : (p a x b : List ℕ) → Begins p a → Begins p b → slice_cmp nat_cmp x a ≢ Less → slice_cmp nat_cmp b x ≢ Less → Begins p x
begins_between [] a x b f g lo hi = refl
begins_between (c ∷ p) [] x b f g lo hi = cc
begins_between (c ∷ p) (d ∷ a) x [] f g lo hi = cc
begins_between (c ∷ p) (d ∷ a) [] (e ∷ b) f g lo hi = absurd (lo refl)
begins_between (c ∷ p) (d ∷ a) (y ∷ x) (e ∷ b) f g lo hi =
    let dc : d ≡ c = cc in
    let ec : e ≡ c = cc in
    let af : Begins p a = cc in
    let bf : Begins p b = cc in
    let low : d ≤ y = elim (cases_lt y d) [
      | inl less ↦ absurd (lo (ap (λ o. ordering_then o (slice_cmp nat_cmp x a)) (sym (nat_cmp_is y d Less less))))
      | inr ge ↦ ge
    ] in
    let high : y ≤ e = elim (cases_lt e y) [
      | inl less ↦ absurd (hi (ap (λ o. ordering_then o (slice_cmp nat_cmp b x)) (sym (nat_cmp_is e y Less less))))
      | inr ge ↦ ge
    ] in
    let yc : y ≡ c = omega (arith, low, high, dc, ec) in
    let first : Equal ≡ nat_cmp y d = nat_cmp_is y d Equal (yc ∙ sym dc) in
    let last : Equal ≡ nat_cmp e y = nat_cmp_is e y Equal (ec ∙ sym yc) in
    let rest = begins_between p a x b af bf (λ less. lo (ap (λ o. ordering_then o (slice_cmp nat_cmp x a)) (sym first) ∙ less)) (λ less. hi (ap (λ o. ordering_then o (slice_cmp nat_cmp b x)) (sym last) ∙ less)) in
    λ i. yc i ∷ rest i

module _ (payload needle : List ℕ) (from : Option ℕ) (t : Table) (table : IsHeadTable payload t) where
  -- a bound passes at most as many heads as there are
  pub before_inside : heads_before payload needle from t.heads ≤ length t.heads
  unfolding heads_before count_passed
  before_inside = count_inside (as_items payload) needle from t.heads table.ordered

  -- the index of a head that it passes is below their number, the index of one that it doesn't pass is not
  pub before_low : (j : ℕ) → IsHeadPassed payload needle from t.heads j true → j < heads_before payload needle from t.heads
  unfolding heads_before count_passed
  before_low j says = passed_below (as_items payload) needle from t.heads table.ordered j says.head says.there says.is

  pub before_high : (j : ℕ) → IsHeadPassed payload needle from t.heads j false → heads_before payload needle from t.heads ≤ j
  unfolding heads_before count_passed
  before_high j says = not_passed_above (as_items payload) needle from t.heads table.ordered j says.head says.there says.is

  -- what a bit says of the number of heads that a bound passes
  pub cut_at : (j bit : ℕ) → IsHeadPassedBit payload needle from t.heads j bit
      → ((bit ≡ 1) × (j < heads_before payload needle from t.heads)) ⊎ ((bit ≡ 0) × (heads_before payload needle from t.heads ≤ j))
  cut_at j bit told =
      elim told.answer as (λ (b : Bool). IsHeadPassed payload needle from t.heads j b → bit ≡ (if b then 1 else 0) → ((bit ≡ 1) × (j < heads_before payload needle from t.heads)) ⊎ ((bit ≡ 0) × (heads_before payload needle from t.heads ≤ j))) [
        | true ↦ λ says is. inl (is, before_low j says)
        | false ↦ λ says is. inr (is, before_high j says)
      ] told.tells told.is

  -- where all keys compare so with the needle
  decided : (o : Ordering) → ((key : List ℕ) → Begins (range_bytes payload t.prefix) key → slice_cmp nat_cmp key needle ≡ o)
      → (j : ℕ) (b : Bool) → ((seqno : ℕ) → passes_cmp o from seqno ≡ b) → j < length t.heads → IsHeadPassed payload needle from t.heads j b
  decided o all j b is h = elim (slice_get_cases t.heads j).1 [
    | inl at ↦
        record {
          head = at.0;
          there = at.2;
          is = ap (λ c. passes_cmp c from at.0.seqno) (all (key_in payload at.0) (table.each_is j at.0 at.2).begins) ∙ is at.0.seqno;
        }
    | inr past ↦ absurd (omega (arith, h, past.0))
  ]

  -- a needle that sorts after the prefix of all keys, or before it
  pub all_before : ((rest : List ℕ) → slice_cmp nat_cmp (range_bytes payload t.prefix ++ rest) needle ≡ Less) → length t.heads ≡ heads_before payload needle from t.heads
  all_before h =
      let within = before_inside in elim (cases_lt 0 (length t.heads)) [
        | inl some ↦
            (let low = before_low (length t.heads - 1) (decided Less (λ key b. ap (λ k. slice_cmp nat_cmp k needle) b ∙ h (drop (length (range_bytes payload t.prefix)) key)) (length t.heads - 1) true (λ s. refl) (omega (arith, some))) in
            omega (arith, within, low))
        | inr none ↦ omega (arith, within, none)
      ]

  pub none_before : ((rest : List ℕ) → slice_cmp nat_cmp (range_bytes payload t.prefix ++ rest) needle ≡ Greater) → 0 < length t.heads → 0 ≡ heads_before payload needle from t.heads
  none_before h some =
      let high = before_high 0 (decided Greater (λ key b. ap (λ k. slice_cmp nat_cmp k needle) b ∙ h (drop (length (range_bytes payload t.prefix)) key)) 0 false (λ s. refl) some) in
      omega (arith, high)

  -- what follows the prefix in a head's key is bytes
  rest_bytes : (h : Head) → IsBytes payload → IsBytes (drop (length (range_bytes payload t.prefix)) (key_in payload h))
  rest_bytes h bytes = IsBytes-drop (length (range_bytes payload t.prefix)) (key_in payload h) (IsBytes-take (h.key.1 - h.key.0) (drop h.key.0 payload) (IsBytes-drop h.key.0 payload bytes))

  -- a number of the table has 63 bits
  pub number_small : (j own : ℕ) → j < length t.heads → IsBytes payload → own ≡ slice_index t.fronts j → own < 2 ^ 63
  number_small j own h bytes e = elim (slice_get_cases t.heads j).1 [
    | inl at ↦
        let is = (table.each_is j at.0 at.2).front_is in
        let small = half_small _ (rest_bytes at.0 bytes) in
        omega (arith, e, is, small)
    | inr past ↦ absurd (omega (arith, h, past.0))
  ]

  -- a needle that begins with the prefix, and has a rest after it
  module _ (rest : List ℕ) (behind : (s : List ℕ) → slice_cmp nat_cmp (range_bytes payload t.prefix ++ s) needle ≡ slice_cmp nat_cmp s rest) where
    -- what follows the prefix decides
    pub by_rest : (h : Head) → Begins (range_bytes payload t.prefix) (key_in payload h) → slice_cmp nat_cmp (key_in payload h) needle ≡ slice_cmp nat_cmp (drop (length (range_bytes payload t.prefix)) (key_in payload h)) rest
    by_rest h b = ap (λ k. slice_cmp nat_cmp k needle) b ∙ behind (drop (length (range_bytes payload t.prefix)) (key_in payload h))

    -- fronts that differ decide
    pub told_apart : (j own number : ℕ) → j < length t.heads → IsBytes payload → IsBytes rest → own ≡ slice_index t.fronts j → number ≡ front rest / 2 → own ≢ number → IsHeadPassed payload needle from t.heads j (nat_lt own number)
    told_apart j own number h bytes needle_bytes e f ne = elim (slice_get_cases t.heads j).1 [
      | inl at ↦
          let is = table.each_is j at.0 at.2 in
          let key = key_in payload at.0 in
          let n = length (range_bytes payload t.prefix) in
          let by = fronts_decide (drop n key) rest own number (rest_bytes at.0 bytes) needle_bytes (e ∙ is.front_is) f ne in
          record {
            head = at.0;
            there = at.2;
            is = ap (λ c. passes_cmp c from at.0.seqno) (by_rest at.0 is.begins ∙ sym by) ∙ by_numbers own number from at.0.seqno ne;
          }
      | inr past ↦ absurd (omega (arith, h, past.0))
    ]

    -- where they are the same, the bytes decide
    pub told_tied : (j : ℕ) (o : Ordering) (seqno : ℕ) → j < length t.heads
        → ((h : Head) → slice_get t.heads j ≡ Some h → (o ≡ slice_cmp nat_cmp (drop (length (range_bytes payload t.prefix)) (key_in payload h)) rest) × (seqno ≡ h.seqno))
        → IsHeadPassed payload needle from t.heads j (passes_cmp o from seqno)
    told_tied j o seqno h read = elim (slice_get_cases t.heads j).1 [
      | inl at ↦
          let is = table.each_is j at.0 at.2 in
          let r = read at.0 at.2 in
          record { head = at.0; there = at.2; is = (λ i. passes_cmp ((by_rest at.0 is.begins ∙ sym r.0) i) from (sym r.1 i)) }
      | inr past ↦ absurd (omega (arith, h, past.0))
    ]

in_order_more : {X : Type 0} (cmp : X → X → Ordering) (xs : List X) (x : X) (last : Option X) → last ≡ last_passed xs → IsInOrder cmp xs → IfSome last (λ l. cmp x l ≢ Less) → IsInOrder cmp (xs ++ x ∷ [])
in_order_more cmp xs x None e o h = subst (λ ys. IsInOrder cmp (ys ++ x ∷ [])) (sym (no_last xs e)) tt
in_order_more cmp xs x (Some l) e o h = (order_more cmp xs l x e).0 (o, h)

-- one head more
module _ (payload : List ℕ) (t more : Table) (h : Head) (number : ℕ) (table : IsHeadTable payload t) (heads : more.heads ≡ t.heads ++ h ∷ []) (fronts : more.fronts ≡ t.fronts ++ number ∷ []) (prefix : more.prefix ≡ t.prefix) (is : IsHead payload (range_bytes payload t.prefix) h number) where
  each_more : (j : ℕ) (g : Head) → slice_get more.heads j ≡ Some g → IsHead payload (range_bytes payload t.prefix) g (slice_index more.fronts j)
  each_more j g got =
      let inside = slice_get_within more.heads j g got in
      let l = ap length heads ∙ length_push t.heads h in
      let c = table.count in
      let there : slice_get (t.heads ++ h ∷ []) j ≡ Some g = ap (λ hs. slice_get hs j) (sym heads) ∙ got in elim (cases_lt j (length t.heads)) [
        | inl less ↦
            let old = table.each_is j g (sym (slice_get_front t.heads h j less) ∙ there) in
            let same : slice_index more.fronts j ≡ slice_index t.fronts j = ap (λ fs. slice_index fs j) fronts ∙ get_or_append_left t.fronts (number ∷ []) 0 j (omega (arith, less, c)) in
            subst (IsHead payload (range_bytes payload t.prefix) g) (sym same) old
        | inr ge ↦
            let last : j ≡ length t.heads = omega (arith, ge, inside, l) in
            let gh : h ≡ g = some_some (sym (slice_get_last t.heads h j last) ∙ there) in
            let same : slice_index more.fronts j ≡ number = ap (λ fs. slice_index fs j) fronts ∙ get_or_at t.fronts number [] 0 j (c ∙ sym last) in
            subst (λ k. IsHead payload (range_bytes payload t.prefix) k (slice_index more.fronts j)) gh (subst (IsHead payload (range_bytes payload t.prefix) h) (sym same) is)
      ]

  pub table_more : IfSome (last_passed t.heads) (λ (l : Head). versions_cmp (key_in payload) (λ (g : Head). g.seqno) h l ≢ Less) → IsHeadTable payload more
  table_more order = record {
    prefix_inside = subst (IsRange payload) (sym prefix) table.prefix_inside;
    count = ap length fronts ∙ length_push t.fronts number ∙ ap (λ n. n + 1) table.count ∙ sym (ap length heads ∙ length_push t.heads h);
    each_is = λ j g got. subst (λ p. IsHead payload (range_bytes payload p) g (slice_index more.fronts j)) (sym prefix) (each_more j g got);
    ordered = subst (IsInOrder (versions_cmp (key_in payload) (λ (g : Head). g.seqno))) (sym heads)
        (in_order_more (versions_cmp (key_in payload) (λ (h : Head). h.seqno)) t.heads h (last_passed t.heads) refl table.ordered order);
  }
