-- Truncated forms of handles, decoded exactly.
use Rattle.std.proofs.Common.{◌≡◌, ℕ, ◌+◌, ◌-◌, ◌≤◌, List, ◌++◌, length, take, drop, ◌∙◌, ap, inl, inr, Some, None, true, false, cond, eqb, leb}
use Rattle.std.proofs.lemmas.Bool.{le-leb, leb-true, cases_Bool}
use Rattle.sst_base.specs.declared.table.util.SliceIndexes.{SliceIndexes}
use Rattle.sst_base.specs.SharedPrefix.{shared_prefix_length}
use Rattle.sst_base.specs.Reading.{number_at, length_prefixed_at}
use Rattle.sst_block_core.specs.Found.{IsRange, range_bytes}
use Rattle.sst_block_core.specs.Handles.{Fields, handle_with, fields_at, truncated_at, is_truncation}
use Rattle.sst_block_core.proofs.Items.HandleReads.{truncated_whole, truncated_other}
use Rattle.sst_block_core.proofs.Items.Truncations.{key_with, not_greatest, greatest, front_inside, front_is, whole_length}

too_long : (n : ℕ) → (n ≤ 65535 → ⊥) → leb n 65535 ≡ false
too_long n wrong = elim (cases_Bool (leb n 65535)) [
  | inl most ↦ absurd (wrong (leb-true n 65535 most))
  | inr more ↦ more
]

module _ (payload bytes : List ℕ) (base key : SliceIndexes) (n end : ℕ) (f : Fields) (a c : List ℕ) (b rest : List ℕ) (base_in : IsRange payload base) (key_in : IsRange payload key)
    (b_is : b ≡ range_bytes payload base) (rest_is : rest ≡ range_bytes payload key)
    (front_at_is : fields_at bytes ≡ Some (f, a)) (shared_is : number_at 16 a ≡ Some (n, c)) (key_is : length_prefixed_at 16 c ≡ Some (range_bytes payload key, drop end payload)) where
  other : is_truncation (range_bytes payload base) n (key_with payload base n key) ≡ false → truncated_at (range_bytes payload base) bytes ≡ None
  other e = truncated_other bytes f a front_at_is (range_bytes payload base) n c shared_is (range_bytes payload key) (drop end payload) key_is e

  pub not_longest : false ≡ eqb (shared_prefix_length b (take n b ++ rest)) n → truncated_at (range_bytes payload base) bytes ≡ None
  not_longest differs =
      let e = not_greatest payload base key n b rest base_in key_in b_is rest_is differs in
      other (ap (λ t. cond t (leb (length (key_with payload base n key)) 65535) false) e)

  module _ (same : true ≡ eqb (shared_prefix_length b (take n b ++ rest)) n) where
    test_is : is_truncation (range_bytes payload base) n (key_with payload base n key) ≡ leb (n + (key.1 - key.0)) 65535
    test_is = ap (λ t. cond t (leb (length (key_with payload base n key)) 65535) false) (greatest payload base key n b rest base_in key_in b_is rest_is same)
        ∙ ap (λ k. leb k 65535) (whole_length payload base key n b rest base_in key_in b_is rest_is same)

    pub not_key : (base.0 + n ≤ length payload → n + (key.1 - key.0) ≤ 65535 → ⊥) → truncated_at (range_bytes payload base) bytes ≡ None
    not_key wrong = other (test_is ∙ too_long (n + (key.1 - key.0)) (wrong (front_inside payload base key n b rest base_in key_in b_is rest_is same)))

    pub found_exactly : n + (key.1 - key.0) ≤ 65535
        → truncated_at (range_bytes payload base) bytes ≡ Some (handle_with f (range_bytes payload (record { 0 = base.0; 1 = base.0 + n }) ++ range_bytes payload key), drop end payload)
    found_exactly is =
        let is_key = front_is payload base key n b rest base_in key_in b_is rest_is same in
        truncated_whole bytes f a front_at_is (range_bytes payload base) n c shared_is (range_bytes payload key) (drop end payload) key_is (test_is ∙ le-leb (n + (key.1 - key.0)) 65535 is)
        ∙ (λ i. Some (handle_with f (is_key i ++ range_bytes payload key), drop end payload))
