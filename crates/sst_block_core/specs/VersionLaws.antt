-- Laws of versions: there is none where no item has the key.
use Rattle.std.proofs.Common.{◌≡◌, ℕ, ◌&&◌, inl, inr, true, false, ltb, List, [], ◌∷◌, filter, Some, None, refl, sym, ap, ◌∙◌, arith}
use Rattle.std.specs.List.{slice_get}
use Rattle.std.specs.Ordering.{nat_cmp, is_eq, ordering_then}
use Rattle.std.specs.Cmp.{nat_cmp_is}
use Rattle.std.specs.Cmp.Lexicographic.{slice_cmp}
use Rattle.std.specs.declared.cmp.Ordering.{Ordering}
use Rattle.std.specs.declared.cmp.Ordering.TheVariants.{Less, Equal, Greater}
use Rattle.std.proofs.lemmas.Bool.{cases_lt, cases_Bool, false≢true}
use Rattle.sst_block_core.specs.Kind.{Kind}
use Rattle.sst_block_core.specs.Window.{is_version, passes_cmp}
use Rattle.std.proofs.Math.Bool.{and-false}
use Rattle.sst_block_core.specs.ListLaws.{filter_none}
use Rattle.std.proofs.lemmas.Bool.Decides.{nat_tests}

-- strings that compare as equal are the same
pub keys_equal : (xs ys : List ℕ) → is_eq (slice_cmp nat_cmp xs ys) ≡ true → xs ≡ ys
keys_equal [] [] e = refl
keys_equal [] (y ∷ ys) e = cc
keys_equal (x ∷ xs) [] e = cc
keys_equal (x ∷ xs) (y ∷ ys) e = elim (cases_lt x y) [
  | inl less ↦ absurd (false≢true (ap (λ o. is_eq (ordering_then o (slice_cmp nat_cmp xs ys))) (nat_cmp_is x y Less less) ∙ e))
  | inr ge ↦ elim (cases_lt y x) [
    | inl more ↦ absurd (false≢true (ap (λ o. is_eq (ordering_then o (slice_cmp nat_cmp xs ys))) (nat_cmp_is x y Greater more) ∙ e))
    | inr le ↦
        (let same : x ≡ y = omega (arith, ge, le) in
        let rest = keys_equal xs ys (ap (λ o. is_eq (ordering_then o (slice_cmp nat_cmp xs ys))) (nat_cmp_is x y Equal same) ∙ e) in
        (λ i. same i ∷ rest i))
  ]
]

-- there is none, where no item has the key
pub none_has_key : {X : Type 0} (kind : Kind X) (needle : List ℕ) (seqno : ℕ) (items : List X) → ((i : ℕ) (x : X) → slice_get items i ≡ Some x → kind.key x ≡ needle → ⊥) → None ≡ slice_get (filter (is_version kind needle seqno) items) 0
none_has_key kind needle seqno items none = sym (filter_none (is_version kind needle seqno) items (λ j y at. elim (cases_Bool (is_eq (slice_cmp nat_cmp (kind.key y) needle))) [
  | inl same ↦ absurd (none j y at (keys_equal (kind.key y) needle same))
  | inr other ↦ ap (λ t. ltb (kind.seqno y) seqno && t) other ∙ and-false (ltb (kind.seqno y) seqno)
]))

-- what passes is no version
pub version_passed : (o : Ordering) (seqno s : ℕ) → passes_cmp o (Some seqno) s ≡ true → (ltb s seqno && is_eq o) ≡ false
version_passed Less seqno s h = grind (arith, nat_tests)
version_passed Equal seqno s h = grind (arith, nat_tests)
version_passed Greater seqno s h = cc
