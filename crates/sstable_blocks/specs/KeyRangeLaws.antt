-- The entries of an ordered list within a range of keys are those between two counts.
use Rattle.std.proofs.Common.{◌≡◌, inl, inr, ℕ, ◌+◌, Bool, true, false, cond, not, ◌&&◌, List, [], ◌∷◌, filter, refl, sym, ◌∙◌, ap}
use Rattle.std.proofs.lemmas.Bool.{cases_Bool}
use Rattle.sst_base.specs.Entry.{Entry}
use Rattle.sst_block_core.specs.Entries.{entries}
use Rattle.sst_block_core.specs.Kind.{IsOrdered}
use Rattle.sst_block_core.specs.Window.{items_left}
use Rattle.sstable_blocks.specs.Scans.{KeyRange, is_before, is_up_to, within}
use Rattle.sstable_blocks.specs.RisingLaws.{IsLower, KeysRise, rise_tail, counted, counted-cons, none_counted, between, between-more, between-none, between-first, lower_before, lower_up_to, ordered_rise}

module _ {X : Type 0} (key : X → List ℕ) (p q : List ℕ → Bool) (p_lower : IsLower p) (q_lower : IsLower q) where
  abbrev pub test : X → Bool
  test x = not (p (key x)) && q (key x)

  abbrev kept : Bool → Bool → X → List X → List X
  kept b c x rest = cond (not b && c) (x ∷ rest) rest

  pub segment : (xs : List X) → KeysRise key xs → filter test xs ≡ between key (counted key p xs) (counted key q xs) xs
  segment [] h = refl
  segment (x ∷ xs) h =
      let more = segment xs (rise_tail key x xs h) in
      let P = counted key p xs in
      let Q = counted key q xs in
      let split : (b c : Bool) → p (key x) ≡ b → q (key x) ≡ c → filter test (x ∷ xs) ≡ kept b c x (filter test xs) =
      (λ b c pb qc. ap (λ t. kept t (q (key x)) x (filter test xs)) pb ∙ ap (λ t. kept b t x (filter test xs)) qc) in
      let ends : (b c : Bool) → p (key x) ≡ b → q (key x) ≡ c → between key (counted key p (x ∷ xs)) (counted key q (x ∷ xs)) (x ∷ xs) ≡ between key (cond b 1 0 + P) (cond c 1 0 + Q) (x ∷ xs) =
      (λ b c pb qc. ap (λ n. between key n (counted key q (x ∷ xs)) (x ∷ xs)) (counted-cons key p x xs b pb) ∙ ap (λ n. between key (cond b 1 0 + P) n (x ∷ xs)) (counted-cons key q x xs c qc)) in
      elim (cases_Bool (p (key x))) [
        | inl pt ↦ elim (cases_Bool (q (key x))) [
          | inl qt ↦ split true true pt qt ∙ more ∙ sym (between-more key P Q x xs) ∙ sym (ends true true pt qt)
          | inr qf ↦ (
              let none = none_counted key q q_lower x xs h qf in
              split true false pt qf ∙ more ∙ ap (λ n. between key P n xs) none ∙ between-none key P xs
              ∙ sym (between-none key (1 + P) (x ∷ xs)) ∙ sym (ap (λ n. between key (1 + P) (0 + n) (x ∷ xs)) none) ∙ sym (ends true false pt qf))
        ]
        | inr pf ↦ (
            let bare = none_counted key p p_lower x xs h pf in
            elim (cases_Bool (q (key x))) [
              | inl qt ↦ split false true pf qt ∙ ap (λ ys. x ∷ ys) (more ∙ ap (λ n. between key n Q xs) bare)
                  ∙ sym (between-first key Q x xs) ∙ sym (ap (λ n. between key (0 + n) (1 + Q) (x ∷ xs)) bare) ∙ sym (ends false true pf qt)
              | inr qf ↦ (
                  let none = none_counted key q q_lower x xs h qf in
                  split false false pf qf ∙ more ∙ ap (λ n. between key P n xs) none ∙ between-none key P xs
                  ∙ sym (between-none key (0 + P) (x ∷ xs)) ∙ sym (ap (λ n. between key (0 + P) (0 + n) (x ∷ xs)) none) ∙ sym (ends false false pf qf))
            ])
      ]

-- the entries of an ordered list within a range are those between two counts
pub within_between : (r : KeyRange) (xs : List Entry) → IsOrdered entries xs
    → within r xs ≡ items_left (record { list = xs; lo = counted entries.key (is_before r.from) xs; hi = counted entries.key (is_up_to r.to) xs })
unfolding within
within_between r xs h = segment entries.key (is_before r.from) (is_up_to r.to) (lower_before r.from) (lower_up_to r.to) xs (ordered_rise entries xs h)
