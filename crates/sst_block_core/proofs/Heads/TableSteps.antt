-- The table of a block's list, a head more.
use Rattle.std.proofs.Common.{◌≡◌, ◌≢◌, ◌<◌, ◌≤◌, ◌+◌, ◌-◌, ◌*◌, ◌++◌, ◌∙◌, ℕ, List, [], ◌∷◌, length, true, inl, inr, Some, slice_get, suc, sym, ap, refl, arith, rules, subst}
use Rattle.std.proofs.lemmas.Bool.{cases_lt, leb-true}
use Rattle.std.proofs.lemmas.Cmp.{nat_list_cmp_total, ranked}
use Rattle.std.proofs.lemmas.List.{length_push}
use Rattle.sst_block_core.proofs.Heads.TableSearches.{begins_between, slice_get_front, slice_get_last}
use Rattle.std.proofs.lemmas.Option.{slice_get_cases, slice_get_within}
use Rattle.std.specs.Ordering.{nat_cmp, ordering_then, ordering_reverse}
use Rattle.std.specs.Cmp.Lexicographic.{slice_cmp}
use Rattle.std.specs.declared.cmp.Ordering.{Ordering}
use Rattle.std.specs.declared.cmp.Ordering.TheVariants.{Less, Equal, Greater}
use Rattle.sst_base.specs.KeyOrderLaws.{slice_cmp-equal}
use Rattle.sst_block_core.specs.declared.table.block.heads.Head.{Head}
use Rattle.sst_block_core.specs.Heads.{Begins, Table, IsHeadTable, IsHeadOf, IsHeadTableUpto, HeadsBegin, FollowsHead}
use Rattle.sst_block_core.specs.Kind.{Kind, IsOrdered, item_cmp}
use Rattle.sst_block_core.specs.Passes.{last_passed}
use Rattle.sst_block_core.specs.Pointers.{head_count}
use Rattle.sst_block_core.specs.Scan.{Listed}
use Rattle.sst_block_core.specs.Window.{passes, passes_cmp}
use Rattle.sst_block_core.proofs.Search.Cuts.{some_some, passed_below, cut_ordered}
use Rattle.sst_block_core.proofs.Search.HeadAnswers.{times_upto}
use Rattle.sst_block_core.proofs.Places.HeadPlaces.{head_below}

-- a key that a search passes sorts no later
apart : (a b : Ordering) (m n : ℕ) → b ≡ ordering_reverse a → passes_cmp a (Some n) m ≡ true → ordering_then b (nat_cmp m n) ≢ Less
apart Less b m n e p q = cc (e, q)
apart Equal b m n e p q =
    let less : nat_cmp m n ≡ Less = sym (ap (λ o. ordering_then o (nat_cmp m n)) e) ∙ q in
    let h = ranked m n Less (sym less) in
    let k = leb-true n m p in
    absurd (omega (arith, h, k))
apart Greater b m n e p q = cc

-- of two items of an ordered list the later does not sort before the earlier
pub later : {X : Type 0} (kind : Kind X) (items : List X) → IsOrdered kind items → (i k : ℕ) (y x : X) → i ≤ k → slice_get items i ≡ Some y → slice_get items k ≡ Some x → item_cmp kind x y ≢ Less
later kind items o i k y x h at there =
    let needle = kind.key x in
    let from = Some (kind.seqno x) in
    let same : slice_cmp nat_cmp needle needle ≡ Equal = (slice_cmp-equal needle needle).1 refl in
    let self : passes needle from (kind.key x) (kind.seqno x) ≡ true = rw same (let l : kind.seqno x ≤ kind.seqno x = omega arith in search rules) in
    let below = passed_below kind needle from items o k x there self in
    let good = (cut_ordered kind needle from items o).first i y (omega (arith, h, below)) at in
    apart (slice_cmp nat_cmp (kind.key y) needle) (slice_cmp nat_cmp needle (kind.key y)) (kind.seqno y) (kind.seqno x)
    (nat_list_cmp_total.antisymm needle (kind.key y)) good

-- all heads begin with what the first and the last begin with
pub all_begin : {X : Type 0} (kind : Kind X) (list : Listed X) → 0 < list.interval → 0 < length list.items → IsOrdered kind list.items → (prefix : List ℕ) (first last : X)
    → slice_get list.items 0 ≡ Some first → slice_get list.items ((head_count list.interval (length list.items) - 1) * list.interval) ≡ Some last → Begins prefix (kind.key first) → Begins prefix (kind.key last) → HeadsBegin kind list prefix
all_begin kind list pos some ordered prefix first last at_first at_last f l = λ j x at.
    let inside = slice_get_within list.items (j * list.interval) x at in
    let below = (head_below list.interval (length list.items) j pos).1 inside in
    let up : j * list.interval ≤ (head_count list.interval (length list.items) - 1) * list.interval = times_upto _ _ _ (omega (arith, below)) in
    let after = later kind list.items ordered 0 (j * list.interval) first x (omega arith) at_first at in
    let before = later kind list.items ordered (j * list.interval) ((head_count list.interval (length list.items) - 1) * list.interval) x last up at at_last in
    begins_between prefix (kind.key first) (kind.key x) (kind.key last) f l
    (λ less. after (ap (λ o. ordering_then o (nat_cmp (kind.seqno first) (kind.seqno x))) less))
    (λ less. before (ap (λ o. ordering_then o (nat_cmp (kind.seqno x) (kind.seqno last))) less))

last_at : (heads : List Head) (l : Head) → last_passed heads ≡ Some l → (0 < length heads) × (slice_get heads (length heads - 1) ≡ Some l)
last_at [] l e = cc
last_at (h ∷ []) l e = (omega arith, e)
last_at (h ∷ g ∷ hs) l e =
    let r = last_at (g ∷ hs) l e in
    let n : length (h ∷ g ∷ hs) - 1 ≡ suc (length (g ∷ hs) - 1) = omega arith in
    (omega arith, ap (slice_get (h ∷ g ∷ hs)) n ∙ r.1)

module _ {X : Type 0} (kind : Kind X) (list : Listed X) (pos : 0 < list.interval) (ordered : IsOrdered kind list.items) (j : ℕ) (t : Table) (upto : IsHeadTableUpto kind list j t) (x : X) (there : slice_get list.items (j * list.interval) ≡ Some x) (inside : j * list.interval < length list.items) where
  pub next_behind : (last : Head) → last_passed t.heads ≡ Some last → FollowsHead kind list.payload last x
  next_behind last e =
      let l = last_at t.heads last e in
      let c = upto.count in
      let k = l.0 in
      let low : (j - 1) * list.interval ≤ j * list.interval = times_upto _ _ _ (omega arith) in
      let at : slice_get t.heads (j - 1) ≡ Some last = subst (λ n. slice_get t.heads (n - 1) ≡ Some last) c l.1 in
      elim (slice_get_cases list.items ((j - 1) * list.interval)).1 [
        | inl item ↦
            let s = upto.same (j - 1) item.0 last item.2 at in
            let o = later kind list.items ordered ((j - 1) * list.interval) (j * list.interval) item.0 x low item.2 there in
            λ less. o ((λ i. ordering_then (slice_cmp nat_cmp (kind.key x) (sym s.key i)) (nat_cmp (sym s.seqno i) (kind.seqno x))) ∙ less)
        | inr past ↦ absurd (omega (arith, low, inside, past.0))
      ]

  pub upto_more : (h : Head) (more : Table) → more.heads ≡ t.heads ++ h ∷ [] → IsHeadTable list.payload more → IsHeadOf kind list j x h → IsHeadTableUpto kind list (j + 1) more
  upto_more h more e table is =
      let c = upto.count in
      record {
        sound = table;
        count = ap length e ∙ length_push t.heads h ∙ ap (λ n. n + 1) upto.count;
        same = λ k y g at got. elim (cases_lt k j) [
          | inl less ↦ upto.same k y g at (sym (slice_get_front t.heads h k (omega (arith, c, less))) ∙ ap (λ hs. slice_get hs k) (sym e) ∙ got)
          | inr ge ↦
              let w = slice_get_within more.heads k g got in
              let l = ap length e ∙ length_push t.heads h in
              let same : k ≡ j = omega (arith, ge, w, l, c) in
              let gh : g ≡ h = some_some (sym got ∙ ap (λ hs. slice_get hs k) e ∙ slice_get_last t.heads h k (omega (arith, c, same))) in
              let yx : y ≡ x = some_some (sym at ∙ ap (λ n. slice_get list.items (n * list.interval)) same ∙ there) in
              subst (λ (n : ℕ). IsHeadOf kind list n y g) (sym same) (subst (λ z. IsHeadOf kind list j z g) (sym yx) (subst (λ z. IsHeadOf kind list j x z) (sym gh) is))
        ];
      }
