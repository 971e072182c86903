-- Truncated forms of entries, decoded exactly.
use Rattle.std.proofs.Common.{◌≡◌, ℕ, ◌+◌, ◌-◌, ◌≤◌, List, ◌++◌, length, take, drop, refl, ◌∙◌, ap, inl, inr, Some, None, Bool, true, false, cond, eqb, leb}
use Rattle.std.proofs.lemmas.Bool.{le-leb, leb-true, cases_Bool}
use Rattle.sst_base.specs.declared.table.util.SliceIndexes.{SliceIndexes}
use Rattle.sst_base.specs.SharedPrefix.{shared_prefix_length}
use Rattle.sst_block_core.specs.Entries.{Truncated, truncated_form_at, truncated_at, is_truncation, joined_to}
use Rattle.sst_block_core.specs.Found.{IsRange, range_bytes, optional_range}
use Rattle.sst_block_core.specs.ParsedEntry.{entry_of, truncated_of, IsKeyLength}
use Rattle.sst_block_core.specs.declared.table.data_block.decoding.TruncatedForm.{TruncatedForm}
use Rattle.sst_block_core.proofs.Items.EntryReads.{parsed_of}
use Rattle.sst_block_core.proofs.Items.Truncations.{key_with, not_greatest, greatest, front_inside, front_is, whole_length}

pub no_form : (base bytes : List ℕ) → truncated_form_at bytes ≡ None → truncated_at base bytes ≡ None
unfolding truncated_at
no_form base bytes e = rw e refl

tested : (base bytes : List ℕ) (t : Truncated) (rest : List ℕ) → truncated_form_at bytes ≡ Some (t, rest)
    → truncated_at base bytes ≡ cond (is_truncation base t.shared (take t.shared base ++ t.rest)) (Some (joined_to base t, rest)) None
unfolding truncated_at
tested base bytes t rest e = rw e refl

too_long : (n : ℕ) → (IsKeyLength n → ⊥) → cond (leb 1 n) (leb n 65535) false ≡ false
too_long n wrong = elim (cases_Bool (leb 1 n)) [
  | inl some ↦ elim (cases_Bool (leb n 65535)) [
    | inl most ↦ absurd (wrong (leb-true 1 n some, leb-true n 65535 most))
    | inr more ↦ rw (some, more) refl
  ]
  | inr none ↦ rw none refl
]

module _ (payload bytes : List ℕ) (base : SliceIndexes) (f : TruncatedForm) (end : ℕ) (b rest : List ℕ) (base_in : IsRange payload base) (key_in : IsRange payload f.key)
    (b_is : b ≡ range_bytes payload base) (rest_is : rest ≡ range_bytes payload f.key) (form : truncated_form_at bytes ≡ Some (truncated_of payload f, drop end payload)) where
  answer : truncated_at (range_bytes payload base) bytes
      ≡ cond (is_truncation (range_bytes payload base) f.shared (key_with payload base f.shared f.key)) (Some (joined_to (range_bytes payload base) (truncated_of payload f), drop end payload)) None
  answer = tested (range_bytes payload base) bytes (truncated_of payload f) (drop end payload) form

  answered : (t : Bool) → is_truncation (range_bytes payload base) f.shared (key_with payload base f.shared f.key) ≡ t
      → truncated_at (range_bytes payload base) bytes ≡ cond t (Some (joined_to (range_bytes payload base) (truncated_of payload f), drop end payload)) None
  answered t e = answer ∙ ap (λ u. cond u (Some (joined_to (range_bytes payload base) (truncated_of payload f), drop end payload)) None) e

  pub not_longest : false ≡ eqb (shared_prefix_length b (take f.shared b ++ rest)) f.shared → truncated_at (range_bytes payload base) bytes ≡ None
  not_longest differs =
      let e = not_greatest payload base f.key f.shared b rest base_in key_in b_is rest_is differs in
      answered false (ap (λ t. cond t (cond (leb 1 (length (key_with payload base f.shared f.key))) (leb (length (key_with payload base f.shared f.key)) 65535) false) false) e)

  module _ (same : true ≡ eqb (shared_prefix_length b (take f.shared b ++ rest)) f.shared) where
    test_is : is_truncation (range_bytes payload base) f.shared (key_with payload base f.shared f.key)
        ≡ cond (leb 1 (f.shared + (f.key.1 - f.key.0))) (leb (f.shared + (f.key.1 - f.key.0)) 65535) false
    test_is = ap (λ t. cond t (cond (leb 1 (length (key_with payload base f.shared f.key))) (leb (length (key_with payload base f.shared f.key)) 65535) false) false)
        (greatest payload base f.key f.shared b rest base_in key_in b_is rest_is same)
        ∙ ap (λ n. cond (leb 1 n) (leb n 65535) false) (whole_length payload base f.key f.shared b rest base_in key_in b_is rest_is same)

    pub not_key : (base.0 + f.shared ≤ length payload → IsKeyLength (f.shared + (f.key.1 - f.key.0)) → ⊥) → truncated_at (range_bytes payload base) bytes ≡ None
    not_key wrong =
        answered false (test_is ∙ too_long (f.shared + (f.key.1 - f.key.0)) (wrong (front_inside payload base f.key f.shared b rest base_in key_in b_is rest_is same)))

    pub found_exactly : IsKeyLength (f.shared + (f.key.1 - f.key.0)) → truncated_at (range_bytes payload base) bytes ≡ Some (entry_of payload (parsed_of base.0 f), drop end payload)
    found_exactly is =
        let e : is_truncation (range_bytes payload base) f.shared (key_with payload base f.shared f.key) ≡ true =
        test_is ∙ ap (λ t. cond t (leb (f.shared + (f.key.1 - f.key.0)) 65535) false) (le-leb 1 (f.shared + (f.key.1 - f.key.0)) is.0) ∙ le-leb (f.shared + (f.key.1 - f.key.0)) 65535 is.1 in
        let key = front_is payload base f.key f.shared b rest base_in key_in b_is rest_is same in
        answered true e
        ∙ (λ i. Some (record { key = record { user_key = key i ++ range_bytes payload f.key; seqno = f.seqno; value_type = f.value_type }; value = optional_range payload f.value }, drop end payload))
