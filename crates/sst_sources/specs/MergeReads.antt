-- The first match of a merge is the lesser of the first matches of its inputs.
use Rattle.std.proofs.Common.{◌≡◌, ◌≢◌, Bool, true, false, cond, List, [], ◌∷◌, Option, Some, None, refl, sym, ap, ◌∙◌, inl, inr}
use Rattle.std.proofs.lemmas.Bool.{cases_Bool}
use Rattle.std.proofs.lemmas.Cmp.{tied_itself}
use Rattle.std.specs.Cmp.{IsTotalOrder}
use Rattle.std.specs.Ordering.{is_lt, ordering_reverse}
use Rattle.std.specs.declared.cmp.Ordering.{Ordering}
use Rattle.std.specs.declared.cmp.Ordering.TheVariants.{Less, Equal, Greater}
use Rattle.sstable_blocks.specs.Prelude.{IsInOrder}
use Rattle.sstable_blocks.specs.BlockLaws.{lt_is, not_lt, is_not_lt, some_is}
use Rattle.sst_sources.specs.Merge.{merge, merge_after, lesser}
use Rattle.sst_sources.specs.ListLaws.{first, first_hit, first_miss}
use Rattle.sstable_blocks.specs.EndLaws.{tail_in_order}

module _ {X : Type 0} (cmp : X → X → Ordering) (order : IsTotalOrder cmp) where
  ge_by : (z y x : X) (o : Ordering) → cmp y x ≡ o → cmp z y ≢ Less → o ≢ Less → cmp z x ≢ Less
  ge_by z y x Less e a b l = absurd (b refl)
  ge_by z y x Equal e a b l = a (order.antisymm z y ∙ ap ordering_reverse (order.congr y x z e ∙ order.antisymm x z ∙ ap ordering_reverse l))
  ge_by z y x Greater e a b l = a (order.trans z x y l (order.antisymm x y ∙ ap ordering_reverse e))

  -- what is not before what is not before x is not before x
  pub ge_trans : (z y x : X) → cmp z y ≢ Less → cmp y x ≢ Less → cmp z x ≢ Less
  ge_trans z y x a b = ge_by z y x (cmp y x) refl a b

  pick_second : (a : Option X) (y : X) → ((z : X) → a ≡ Some z → is_lt (cmp y z) ≡ true) → lesser cmp a (Some y) ≡ Some y
  pick_second None y h = refl
  pick_second (Some z) y h = ap (λ b. cond b (Some y) (Some z)) (h z refl)

  pick_first : (b : Option X) (x : X) → ((z : X) → b ≡ Some z → is_lt (cmp z x) ≡ false) → lesser cmp (Some x) b ≡ Some x
  pick_first None x h = refl
  pick_first (Some z) x h = ap (λ b. cond b (Some z) (Some x)) (h z refl)

  pick_only : (a : Option X) → lesser cmp a None ≡ a
  pick_only None = refl
  pick_only (Some a) = refl

  module _ (test : X → Bool) where
    -- the first match after x is not before x
    above : (x : X) (xs : List X) (z : X) → IsInOrder cmp (x ∷ xs) → first test xs ≡ Some z → cmp z x ≢ Less
    above x [] z h e = absurd (cc)
    above x (y ∷ ys) z h e = elim (cases_Bool (test y)) [
      | inl hit ↦ (let same : y ≡ z = some_is y z (sym (first_hit test y ys hit) ∙ e) in λ l. h.0 (ap (λ w. cmp w x) same ∙ l))
      | inr miss ↦ ge_trans z y x (above y ys z h.1 (sym (first_miss test y ys miss) ∙ e)) h.0
    ]

    -- nor is that from x on
    above_or_at : (x : X) (xs : List X) (z : X) → IsInOrder cmp (x ∷ xs) → first test (x ∷ xs) ≡ Some z → cmp z x ≢ Less
    above_or_at x xs z h e = elim (cases_Bool (test x)) [
      | inl hit ↦ (let same : x ≡ z = some_is x z (sym (first_hit test x xs hit) ∙ e) in λ l. absurd (let f : Equal ≡ Less = sym (tied_itself order x) ∙ ap (λ w. cmp w x) same ∙ l in cc))
      | inr miss ↦ above x xs z h (sym (first_miss test x xs miss) ∙ e)
    ]

    at : (x : X) (xs : List X) (after : List X → List X) → IsInOrder cmp (x ∷ xs)
        → ((ys : List X) → IsInOrder cmp ys → first test (after ys) ≡ lesser cmp (first test xs) (first test ys))
        → (ys : List X) → IsInOrder cmp ys → first test (merge_after cmp x xs after ys) ≡ lesser cmp (first test (x ∷ xs)) (first test ys)
    at x xs after up go [] h = sym (pick_only (first test (x ∷ xs)))
    at x xs after up go (y ∷ ys) h = elim (cases_Bool (is_lt (cmp y x))) [
      | inl second ↦ (
          let rest = merge_after cmp x xs after ys in
          let here : merge_after cmp x xs after (y ∷ ys) ≡ y ∷ rest = ap (λ b. cond b (y ∷ rest) (x ∷ after (y ∷ ys))) second in
          ap (first test) here ∙ elim (cases_Bool (test y)) [
            | inl hit ↦ first_hit test y rest hit ∙ sym (ap (lesser cmp (first test (x ∷ xs))) (first_hit test y ys hit)
                ∙ pick_second (first test (x ∷ xs)) y (λ z e. elim (cases_Bool (is_lt (cmp y z))) [
                  | inl less ↦ less
                  | inr more ↦ absurd (ge_trans y z x (not_lt (cmp y z) more) (above_or_at x xs z up e) (lt_is (cmp y x) second))
                ]))
            | inr miss ↦ first_miss test y rest miss ∙ at x xs after up go ys (tail_in_order cmp y ys h) ∙ ap (lesser cmp (first test (x ∷ xs))) (sym (first_miss test y ys miss))
          ])
      | inr front ↦ (
          let rest = merge_after cmp x xs after ys in
          let here : merge_after cmp x xs after (y ∷ ys) ≡ x ∷ after (y ∷ ys) = ap (λ b. cond b (y ∷ rest) (x ∷ after (y ∷ ys))) front in
          ap (first test) here ∙ elim (cases_Bool (test x)) [
            | inl hit ↦ first_hit test x (after (y ∷ ys)) hit ∙ sym (ap (λ a. lesser cmp a (first test (y ∷ ys))) (first_hit test x xs hit)
                ∙ pick_first (first test (y ∷ ys)) x (λ z e. is_not_lt (cmp z x) (ge_trans z y x (above_or_at y ys z h e) (not_lt (cmp y x) front))))
            | inr miss ↦ first_miss test x (after (y ∷ ys)) miss ∙ go (y ∷ ys) h ∙ ap (λ a. lesser cmp a (first test (y ∷ ys))) (sym (first_miss test x xs miss))
          ])
    ]

    -- the first match of a merge of ordered lists: the lesser of the first matches of the two, and of equal ones that of the first
    pub merge-first_match : (xs ys : List X) → IsInOrder cmp xs → IsInOrder cmp ys → first test (merge cmp xs ys) ≡ lesser cmp (first test xs) (first test ys)
    merge-first_match [] ys up h = refl
    merge-first_match (x ∷ xs) ys up h = at x xs (merge cmp xs) up (λ zs g. merge-first_match xs zs (tail_in_order cmp x xs up) g) ys h
