-- Laws of the order of versions: by key rising, then by sequence number falling.
use Rattle.std.proofs.Common.{◌≡◌, ℕ, List, ◌<◌, refl, sym, ◌∙◌, ap, ◌⊎◌, inl, inr, ◌↔◌}
use Rattle.std.proofs.lemmas.Cmp.{ranked, nat_list_cmp_total, nat_cmp_total, on_total, back_total, then_total, tied_itself}
use Rattle.std.proofs.lemmas.Map.Lookups.{exact_bytes}
use Rattle.std.specs.Cmp.{IsTotalOrder, nat_cmp_is}
use Rattle.std.specs.Cmp.Lexicographic.{slice_cmp}
use Rattle.std.specs.Ordering.{nat_cmp, ordering_then}
use Rattle.std.specs.declared.cmp.Ordering.{Ordering}
use Rattle.std.specs.declared.cmp.Ordering.TheVariants.{Less, Equal, Greater}
use Rattle.sst_base.specs.Order.{versions_cmp}

-- byte strings that compare as equal are the same
pub slice_cmp-equal : (a b : List ℕ) → (slice_cmp nat_cmp a b ≡ Equal) ↔ (a ≡ b)
slice_cmp-equal a b = (exact_bytes a b, λ e. ap (slice_cmp nat_cmp a) (sym e) ∙ tied_itself nat_list_cmp_total a)

then_less : (o p : Ordering) → ordering_then o p ≡ Less → (o ≡ Less) ⊎ ((o ≡ Equal) × (p ≡ Less))
then_less Less p e = inl refl
then_less Equal p e = inr (refl, e)
then_less Greater p e = cc

then_equal : (o p : Ordering) → ordering_then o p ≡ Equal → (o ≡ Equal) × (p ≡ Equal)
then_equal Less p e = cc
then_equal Equal p e = (refl, e)
then_equal Greater p e = cc

module _ {X : Type 0} (key : X → List ℕ) (seqno : X → ℕ) where
  -- the order is total: exchanging its arguments reverses it, it is transitive, and equal ones compare
  -- alike with all others
  pub versions_cmp_total : IsTotalOrder (versions_cmp key seqno)
  versions_cmp_total = then_total (on_total key nat_list_cmp_total) (back_total (on_total seqno nat_cmp_total))

  -- when one version sorts before another
  pub versions_cmp-less : (a b : X) → (versions_cmp key seqno a b ≡ Less) ↔ ((slice_cmp nat_cmp (key a) (key b) ≡ Less) ⊎ ((key a ≡ key b) × (seqno b < seqno a)))
  versions_cmp-less a b = (
    (λ h. elim (then_less (slice_cmp nat_cmp (key a) (key b)) (nat_cmp (seqno b) (seqno a)) h) [
      | inl less ↦ inl less
      | inr same ↦ inr ((slice_cmp-equal (key a) (key b)).0 same.0, ranked (seqno b) (seqno a) Less (sym same.1))
    ]),
    (λ h. elim h [
      | inl less ↦ ap (λ o. ordering_then o (nat_cmp (seqno b) (seqno a))) less
      | inr same ↦ ap (λ o. ordering_then o (nat_cmp (seqno b) (seqno a))) ((slice_cmp-equal (key a) (key b)).1 same.0) ∙ sym (nat_cmp_is (seqno b) (seqno a) Less same.1)
    ]),
  )

  -- equal versions have the same key and the same sequence number
  pub versions_cmp-equal : (a b : X) → (versions_cmp key seqno a b ≡ Equal) ↔ ((key a ≡ key b) × (seqno a ≡ seqno b))
  versions_cmp-equal a b = (
    (λ h. let p = then_equal (slice_cmp nat_cmp (key a) (key b)) (nat_cmp (seqno b) (seqno a)) h in
        ((slice_cmp-equal (key a) (key b)).0 p.0, sym (ranked (seqno b) (seqno a) Equal (sym p.1)))),
    (λ h. ap (λ o. ordering_then o (nat_cmp (seqno b) (seqno a))) ((slice_cmp-equal (key a) (key b)).1 h.0) ∙ sym (nat_cmp_is (seqno b) (seqno a) Equal (sym h.1))),
  )
