-- The table of a block's list and the list.
use Rattle.std.proofs.Common.{◌≡◌, ◌<◌, ◌≤◌, ◌+◌, ◌-◌, ◌*◌, ◌∙◌, ◌++◌, ap, refl, take, drop, length-append, length-drop, IfSome, None, ℕ, List, length, Bool, true, false, inl, inr, Option, Some, slice_get, sym, arith}
use Rattle.std.specs.Borrow.{Bor}
use Rattle.std.proofs.lemmas.Bool.{cases_lt}
use Rattle.std.proofs.lemmas.Option.{slice_get_cases}
use Rattle.sst_block_core.specs.declared.table.block.heads.Head.{Head}
use Rattle.std.proofs.lemmas.List.{take_at, take-take, take-append-le, take-append-drop, length-take-le}
use Rattle.sst_base.specs.declared.table.util.SliceIndexes.{SliceIndexes}
use Rattle.sst_base.specs.SharedPrefix.{shared_prefix_length}
use Rattle.sst_base.specs.SharedPrefixLaws.{shared_prefix_inside, shared_prefix_joins}
use Rattle.sst_block_core.specs.Found.{IsEncodedAt, IsRange, range_bytes}
use Rattle.sst_block_core.specs.Passes.{last_passed}
use Rattle.sst_block_core.specs.Heads.{key_in, Begins, Table, IsHeadTableOf, heads_before}
use Rattle.sst_block_core.specs.Kind.{Kind, IsOrdered}
use Rattle.sst_block_core.specs.Pointers.{head_count}
use Rattle.sst_block_core.specs.Scan.{Listed}
use Rattle.sst_block_core.specs.Window.{passes, count_passed}
use Rattle.sst_block_core.proofs.Search.Cuts.{count_inside, passed_below, not_passed_above, cut_ordered}
use Rattle.sst_block_core.proofs.Search.HeadAnswers.{times_upto}
use Rattle.sst_block_core.proofs.Heads.TableSearches.{as_items}
use Rattle.sst_block_core.proofs.Places.HeadPlaces.{head_below, heads_reach}

module _ {X : Type 0} (kind : Kind X) (list : Listed X) (pos : 0 < list.interval) (t : Table) (tie : IsHeadTableOf kind list t) where
  -- an item that is a head has one in the table
  pub inside_table : (j : ℕ) → j * list.interval < length list.items → j < length t.heads
  inside_table j h = let b = (head_below list.interval (length list.items) j pos).1 h in let c = tie.count in omega (arith, b, c)

  pub inside_list : (j : ℕ) → j < length t.heads → j * list.interval < length list.items
  inside_list j h = let c = tie.count in (head_below list.interval (length list.items) j pos).0 (omega (arith, h, c))

  -- what was read of head j in the table is the item's
  pub table_head : (j : ℕ) (x : X) → slice_get list.items (j * list.interval) ≡ Some x → j * list.interval < length list.items → (found : Bor (List ℕ) × ℕ)
      → ((h : Head) → slice_get t.heads j ≡ Some h → (found.0.now ≡ key_in list.payload h) × (found.1 ≡ h.seqno)) → (found.0.now ≡ kind.key x) × (found.1 ≡ kind.seqno x)
  table_head j x there inside found read = elim (slice_get_cases t.heads j).1 [
    | inl at ↦ let s = tie.same j x at.0 there at.2 in let r = read at.0 at.2 in (r.0 ∙ s.key, r.1 ∙ s.seqno)
    | inr past ↦ absurd (let i = inside_table j inside in omega (arith, i, past.0))
  ]

  module _ (needle : List ℕ) (from : Option ℕ) (ordered : IsOrdered kind list.items) where
    -- whether a search passes head j in the table is whether it passes the item
    told : (j : ℕ) (b : Bool) → j < length t.heads → ((h : Head) → slice_get t.heads j ≡ Some h → passes needle from (key_in list.payload h) h.seqno ≡ b)
        → (x : X) × (slice_get list.items (j * list.interval) ≡ Some x) × (passes needle from (kind.key x) (kind.seqno x) ≡ b)
    told j b h says = elim (slice_get_cases t.heads j).1 [
      | inl at ↦ elim (slice_get_cases list.items (j * list.interval)).1 [
        | inl item ↦ let s = tie.same j item.0 at.0 item.2 at.2 in (item.0, item.2, (λ i. passes needle from (sym s.key i) (sym s.seqno i)) ∙ says at.0 at.2)
        | inr past ↦ absurd (let i = inside_list j h in omega (arith, i, past.0))
      ]
      | inr past ↦ absurd (omega (arith, h, past.0))
    ]

    pub passed_low : (n : ℕ) → n ≡ heads_before list.payload needle from t.heads → 0 < n → (n - 1) * list.interval < count_passed kind needle from list.items
    unfolding heads_before count_passed
    passed_low n e some =
        let cut = cut_ordered (as_items list.payload) needle from t.heads tie.sound.ordered in
        let within = cut.inside in
        let h : n - 1 < length t.heads = omega (arith, e, some, within) in
        let u = told (n - 1) true h (λ g at. cut.first (n - 1) g (omega (arith, e, some)) at) in
        passed_below kind needle from list.items ordered ((n - 1) * list.interval) u.0 u.1 u.2

    pub passed_high : (n : ℕ) → n ≡ heads_before list.payload needle from t.heads → 0 < length list.items → count_passed kind needle from list.items ≤ n * list.interval
    unfolding heads_before count_passed
    passed_high n e some = elim (cases_lt n (length t.heads)) [
      | inl less ↦
          let cut = cut_ordered (as_items list.payload) needle from t.heads tie.sound.ordered in
          let u = told n false less (λ g at. cut.others n g (omega (arith, e)) at) in
          not_passed_above kind needle from list.items ordered (n * list.interval) u.0 u.1 u.2
      | inr past ↦
          let count = count_inside kind needle from list.items ordered in
          let c = tie.count in
          let up : head_count list.interval (length list.items) * list.interval ≤ n * list.interval = times_upto _ _ _ (omega (arith, past, c)) in
          let reach = (heads_reach list.interval (length list.items) pos some).1 in
          omega (arith, count, up, reach)
    ]

    pub passed_within : (n : ℕ) → n ≡ heads_before list.payload needle from t.heads → n ≤ head_count list.interval (length list.items)
    unfolding heads_before count_passed
    passed_within n e =
        let w = (cut_ordered (as_items list.payload) needle from t.heads tie.sound.ordered).inside in
        let c = tie.count in
        omega (arith, e, w, c)

    pub passed_start : (n : ℕ) → n ≡ heads_before list.payload needle from t.heads → 0 < length list.items → (n - 1) * list.interval < length list.items
    passed_start n e some =
        let w = passed_within n e in
        let up : (n - 1) * list.interval ≤ (head_count list.interval (length list.items) - 1) * list.interval = times_upto _ _ _ (omega (arith, w)) in
        let reach = (heads_reach list.interval (length list.items) pos some).0 in
        omega (arith, up, reach)

-- the range of a key that is encoded in a payload
pub encoded_range : (payload key own : List ℕ) (start n : ℕ) → IsEncodedAt payload start key → own ≡ drop n key → n ≡ 0 → IsRange payload (start, start + length own) × (range_bytes payload (start, start + length own) ≡ key)
encoded_range payload key own start n s e z =
    let same : own ≡ key = e ∙ ap (λ m. drop m key) z in
    let l : length (drop start payload) ≡ length key + length s.after = ap length s.there ∙ length-append key s.after in
    let d = length-drop start payload in
    let i = s.inside in
    let k : length own ≡ length key = ap length same in
    let width : (start + length own) - start ≡ length key = omega (arith, k) in (
      record { order = omega arith; inside = omega (arith, l, d, i, k) },
      (λ t. take (width t) (s.there t)) ∙ take_at key s.after (length key) refl,
    )

-- a prefix that two ranges share, as a range
pub shared_range : (payload : List ℕ) (a b : SliceIndexes) (n : ℕ) → IsRange payload a → IsRange payload b → n ≤ shared_prefix_length (range_bytes payload a) (range_bytes payload b)
    → (a.0 + n ≤ a.1) × IsRange payload (a.0, a.0 + n) × Begins (range_bytes payload (a.0, a.0 + n)) (range_bytes payload a) × Begins (range_bytes payload (a.0, a.0 + n)) (range_bytes payload b)
shared_range payload a b n ra rb e =
    let A = range_bytes payload a in
    let B = range_bytes payload b in
    let s = (shared_prefix_inside A B).0 in
    let d = length-drop a.0 payload in
    let order = ra.order in
    let inside = ra.inside in
    let l : length A ≡ a.1 - a.0 = length-take-le (a.1 - a.0) (drop a.0 payload) (omega (arith, d, order, inside)) in
    let up : n ≤ a.1 - a.0 = omega (arith, s, l, e) in
    let width : (a.0 + n) - a.0 ≡ n = omega arith in
    let prefix : range_bytes payload (a.0, a.0 + n) ≡ take n A = ap (λ m. take m (drop a.0 payload)) width ∙ sym (take-take n (a.1 - a.0) (drop a.0 payload) up) in
    let long : length (range_bytes payload (a.0, a.0 + n)) ≡ n = ap length prefix ∙ length-take-le n A (omega (arith, l, up)) in
    let all = shared_prefix_length A B in
    let reach : n ≤ length (take all A) = omega (arith, length-take-le all A s, e) in
    let same : take n B ≡ take n A = ap (take n) (sym (shared_prefix_joins A B)) ∙ take-append-le n (take all A) (drop all B) reach ∙ take-take n all A e in
    let joined : take n A ++ drop n B ≡ B = (λ i. sym same i ++ drop n B) ∙ take-append-drop n B in (
      omega (arith, up, order),
      record { order = omega arith; inside = omega (arith, up, order, inside) },
      sym (take-append-drop n A) ∙ (λ i. sym prefix i ++ drop (sym long i) A),
      sym joined ∙ (λ i. sym prefix i ++ drop (sym long i) B),
    )

-- what holds of the last head, if there is one
by_cases : (o : Option Head) (heads : List Head) (P : Head → Type 0) → last_passed heads ≡ o → ((last : Head) → last_passed heads ≡ Some last → P last) → IfSome o P
by_cases None heads P e h = tt
by_cases (Some l) heads P e h = h l e

pub if_last : (heads : List Head) (P : Head → Type 0) → ((last : Head) → last_passed heads ≡ Some last → P last) → IfSome (last_passed heads) P
if_last heads P h = by_cases (last_passed heads) heads P refl h
