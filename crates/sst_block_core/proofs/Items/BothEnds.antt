-- What steps from both ends give together.
use Rattle.std.proofs.Common.{◌≡◌, ℕ, suc, ◌+◌, ◌-◌, ◌<◌, ◌≤◌, inl, inr, List, [], ◌∷◌, ◌++◌, length, take, drop, get_or, map, Option, Some, None, IsSome, refl, sym, ap, subst, ◌∙◌, arith, append_assoc, length-drop}
use Rattle.std.specs.List.{slice_get}
use Rattle.std.specs.Option.{option_to_list}
use Rattle.std.proofs.lemmas.Bool.{cases_lt}
use Rattle.std.proofs.lemmas.Option.{slice_get_cases, get_or_from_slice_get}
use Rattle.std.proofs.lemmas.List.{drop_more, take_more, append-nil, get_or-drop}
use Rattle.sst_base.specs.Entry.{Entry}
use Rattle.sst_block_core.specs.Window.{Window, Answer, Step, items_left, answers, window_after, next, next_back}
use Rattle.sst_block_core.specs.Handles.{Handle}
use Rattle.sst_block_core.specs.Ops.{step_of}
use Rattle.sst_block_core.specs.IndexOps.{step_of as index_step_of}
use Rattle.sst_block_core.specs.Walks.{End, front, back, op_end, index_end_of, AreSteps, given_front, with_given_back, fronts, backs}
use Rattle.sst_block_core.specs.declared.table.data_block.ops.Op.{Op}
use Rattle.sst_block_core.specs.declared.table.data_block.ops.Op.TheVariants as entry_ops
use Rattle.sst_block_core.specs.declared.table.index_block.ops.IndexOp.{IndexOp}
use Rattle.sst_block_core.specs.declared.table.index_block.ops.IndexOp.TheVariants as index_ops
use Rattle.sst_base.specs.TestLaws.{lt_test, ge_test}

-- the step that takes an item from an end
abbrev step_at : {X : Type 0} → End → Step X
step_at front = next
step_at back = next_back

module _ {X : Type 0} (items : List X) (lo hi : ℕ) (some : lo < hi) (inside : hi ≤ length items) (x : X) where
  first_item : slice_get items lo ≡ Some x → take (hi - lo) (drop lo items) ≡ x ∷ take (hi - (lo + 1)) (drop (lo + 1) items)
  first_item at =
      let n : hi - lo ≡ suc (hi - (lo + 1)) = omega arith in
      rw (n, drop_more items lo x (omega arith)) (ap (λ y. y ∷ take (hi - (lo + 1)) (drop (lo + 1) items)) (get_or_from_slice_get items lo x x at))

  last_item : slice_get items (hi - 1) ≡ Some x → take (hi - lo) (drop lo items) ≡ take ((hi - 1) - lo) (drop lo items) ++ x ∷ []
  last_item at =
      let n : hi - lo ≡ ((hi - 1) - lo) + 1 = omega arith in
      let l = length-drop lo items in
      let place : lo + ((hi - 1) - lo) ≡ hi - 1 = omega arith in
      let e : get_or (drop lo items) ((hi - 1) - lo) x ≡ x = get_or-drop lo items ((hi - 1) - lo) x ∙ ap (λ i. get_or items i x) place ∙ get_or_from_slice_get items (hi - 1) x x at in
      rw n (take_more (drop lo items) ((hi - 1) - lo) x (omega (arith, l)) ∙ ap (λ y. take ((hi - 1) - lo) (drop lo items) ++ y ∷ []) e)

module _ {O X : Type 0} (op_end : O → Option End) (step_of : O → Step X) (steps_are : (op : O) (e : End) → op_end op ≡ Some e → step_of op ≡ step_at e) where
  abbrev later : List O → Window X → List (Answer X)
  later ops w = answers (map step_of ops) w

  abbrev after : List O → Window X → Window X
  after ops w = window_after (map step_of ops) w

  -- what an operation and those after it give and leave, where the operation takes from this end and is this step
  abbrev Given : List O → Window X → Option End → Step X → Type 0
  Given ops w e step =
      (given_front e (step w).1 ++ fronts op_end ops (later ops (step w).0)) ++ (items_left (after ops (step w).0) ++ with_given_back (backs op_end ops (later ops (step w).0)) e (step w).1) ≡ items_left w

  front_case : (ops : List O) (w t u : Window X) (o p : Option X) → t ≡ u → o ≡ p
      → (option_to_list p ++ fronts op_end ops (later ops u)) ++ (items_left (after ops u) ++ backs op_end ops (later ops u)) ≡ items_left w
      → (option_to_list o ++ fronts op_end ops (later ops t)) ++ (items_left (after ops t) ++ backs op_end ops (later ops t)) ≡ items_left w
  front_case ops w t u o p e f g = rw (e, f) g

  back_case : (ops : List O) (w t u : Window X) (o p : Option X) → t ≡ u → o ≡ p
      → fronts op_end ops (later ops u) ++ (items_left (after ops u) ++ (backs op_end ops (later ops u) ++ option_to_list p)) ≡ items_left w
      → fronts op_end ops (later ops t) ++ (items_left (after ops t) ++ (backs op_end ops (later ops t) ++ option_to_list o)) ≡ items_left w
  back_case ops w t u o p e f g = rw (e, f) g

  append_three : (a b c d : List X) → (a ++ (b ++ c)) ++ d ≡ a ++ (b ++ (c ++ d))
  append_three a b c d = simp append_assoc

  same_nothing : (a b c d : List X) → a ++ (b ++ c) ≡ d → a ++ (b ++ (c ++ [])) ≡ d
  same_nothing a b c d e = rw (append-nil c) e

  -- a step from either end, where the items that later steps give and the items left are the window after this step
  one_given : (ops : List O) (w : Window X) (e : End) → w.hi ≤ length w.list
      → ((u : Window X) → u.list ≡ w.list → u.hi ≤ w.hi → fronts op_end ops (later ops u) ++ (items_left (after ops u) ++ backs op_end ops (later ops u)) ≡ items_left u) → Given ops w (Some e) (step_at e)
  one_given ops w front inside rest = elim (cases_lt w.lo w.hi) [
    | inl some ↦ elim (slice_get_cases w.list w.lo).1 [
      | inl at ↦
          (let u = record w { lo = w.lo + 1 } in
          front_case ops w _ u _ (Some at.0) (rw (lt_test w.lo w.hi some) refl) (rw (lt_test w.lo w.hi some, at.2) refl)
          (ap (λ xs. at.0 ∷ xs) (rest u refl (omega arith)) ∙ sym (first_item w.list w.lo w.hi some inside at.0 at.2)))
      | inr past ↦ absurd (omega (arith, some, inside, past.0))
    ]
    | inr none ↦ front_case ops w _ w _ None (rw (ge_test w.lo w.hi none) refl) (rw (ge_test w.lo w.hi none) refl) (rest w refl (omega arith))
  ]
  one_given ops w back inside rest = elim (cases_lt w.lo w.hi) [
    | inl some ↦ elim (slice_get_cases w.list (w.hi - 1)).1 [
      | inl at ↦
          (let u = record w { hi = w.hi - 1 } in
          back_case ops w _ u _ (Some at.0) (rw (lt_test w.lo w.hi some) refl) (rw (lt_test w.lo w.hi some, at.2) refl)
          (sym (append_three (fronts op_end ops (later ops u)) (items_left (after ops u)) (backs op_end ops (later ops u)) (at.0 ∷ []))
          ∙ ap (λ xs. xs ++ at.0 ∷ []) (rest u refl (omega arith)) ∙ sym (last_item w.list w.lo w.hi some inside at.0 at.2)))
      | inr past ↦ absurd (omega (arith, some, inside, past.0))
    ]
    | inr none ↦ back_case ops w _ w _ None (rw (ge_test w.lo w.hi none) refl) (rw (ge_test w.lo w.hi none) refl)
        (same_nothing (fronts op_end ops (later ops w)) (items_left (after ops w)) (backs op_end ops (later ops w)) (items_left w) (rest w refl (omega arith)))
  ]

  by_end : (ops : List O) (w : Window X) (op : O) (o : Option End) → op_end op ≡ o → IsSome o → ((e : End) → Given ops w (Some e) (step_at e)) → Given ops w (op_end op) (step_of op)
  by_end ops w op None same some given = cc
  by_end ops w op (Some e) same some given =
      let P : Option End → Type 0 = λ o. Given ops w o (step_of op) in
      let Q : Step X → Type 0 = λ step. Given ops w (Some e) step in
      subst P (sym same) (subst Q (sym (steps_are op e same)) (given e))

  -- the items given from both ends, and those left between them, are the window
  pub window_given : (ops : List O) (w : Window X) → w.hi ≤ length w.list → AreSteps op_end ops
      → fronts op_end ops (later ops w) ++ (items_left (after ops w) ++ backs op_end ops (later ops w)) ≡ items_left w
  window_given [] w inside steps = append-nil (items_left w)
  window_given (op ∷ ops) w inside steps =
      by_end ops w op (op_end op) refl steps.0 (λ e. one_given ops w e inside (λ u same low.
      let len = ap length same in window_given ops u (omega (arith, len, low, inside)) steps.1))

entry_steps : (op : Op) (e : End) → op_end op ≡ Some e → step_of op ≡ step_at e
entry_steps entry_ops.Next front h = refl
entry_steps entry_ops.Next back h = cc
entry_steps entry_ops.NextBack front h = cc
entry_steps entry_ops.NextBack back h = refl
entry_steps (entry_ops.Seek key) e h = cc
entry_steps (entry_ops.SeekUpper key) e h = cc
entry_steps (entry_ops.SeekExclusive key) e h = cc
entry_steps (entry_ops.SeekUpperExclusive key) e h = cc

index_steps : (op : IndexOp) (e : End) → index_end_of op ≡ Some e → index_step_of op ≡ step_at e
index_steps index_ops.Next front h = refl
index_steps index_ops.Next back h = cc
index_steps index_ops.NextBack front h = cc
index_steps index_ops.NextBack back h = refl
index_steps (index_ops.Seek key seqno) e h = cc
index_steps (index_ops.SeekUpper key seqno) e h = cc

-- the same for entries and for handles
pub entries_given : (ops : List Op) (w : Window Entry) → w.hi ≤ length w.list → AreSteps op_end ops
    → fronts op_end ops (answers (map step_of ops) w) ++ (items_left (window_after (map step_of ops) w) ++ backs op_end ops (answers (map step_of ops) w)) ≡ items_left w
entries_given = window_given op_end step_of entry_steps

pub handles_given : (ops : List IndexOp) (w : Window Handle) → w.hi ≤ length w.list → AreSteps index_end_of ops
    → fronts index_end_of ops (answers (map index_step_of ops) w) ++ (items_left (window_after (map index_step_of ops) w) ++ backs index_end_of ops (answers (map index_step_of ops) w)) ≡ items_left w
handles_given = window_given index_end_of index_step_of index_steps
