-- Forms of entries that are encoded at an offset: their parts are encoded one after the other.
use Rattle.std.proofs.Common.{◌≡◌, ℕ, ◌≤◌, List, ◌++◌, length, take, drop, refl, sym, ap, subst, ◌∙◌, inl, inr, Some, ltb}
use Rattle.std.specs.Option.{IsSome}
use Rattle.std.proofs.lemmas.List.{drop_at, length-take-le}
use Rattle.std.proofs.lemmas.Bool.{cases_Bool}
use Rattle.sst_base.specs.declared.value_type.ValueType.{ValueType}
use Rattle.sst_base.specs.Bytes.{IsBytes}
use Rattle.sst_base.specs.BytesLaws.{IsBytes-drop}
use Rattle.sst_base.specs.Entry.{Entry, IsEntry}
use Rattle.sst_base.specs.Reading.{value_type_at, number_at, length_prefixed_at}
use Rattle.sst_base.specs.SharedPrefix.{shared_prefix_length}
use Rattle.sst_block_core.specs.Entries.{Truncated, value_at, full_at, truncated_form_at, truncated_at, joined_to}
use Rattle.sst_block_core.specs.EntryLaws.{IsKind-entries}
use Rattle.sst_base.specs.ReadingLaws.{chain_first, chain_next}
use Rattle.sst_block_core.proofs.Items.EntryReads.{one_reading, truncated_parts}

-- where a full form is encoded, a value type is
pub full_value_type : (bytes : List ℕ) → IsSome (full_at bytes) → IsSome (value_type_at bytes)
unfolding full_at
full_value_type bytes whole = chain_first (value_type_at bytes) _ whole

-- where a truncated form is encoded, a value type is
pub form_value_type : (bytes : List ℕ) → IsSome (truncated_form_at bytes) → IsSome (value_type_at bytes)
unfolding truncated_form_at
form_value_type bytes whole = chain_first (value_type_at bytes) _ whole

module _ (bytes : List ℕ) (t : ValueType) (a : List ℕ) (type_is : value_type_at bytes ≡ Some (t, a)) where
  module _ (whole : IsSome (full_at bytes)) where
    -- after the value type of a full form its sequence number is encoded
    pub full_seqno : IsSome (number_at 64 a)
    unfolding full_at
    full_seqno = chain_first (number_at 64 a) _ (chain_next (value_type_at bytes) _ (t, a) type_is whole)

    module _ (n : ℕ) (b : List ℕ) (seqno_is : number_at 64 a ≡ Some (n, b)) where
      -- after it the key
      pub full_key : IsSome (length_prefixed_at 16 b)
      unfolding full_at
      full_key = chain_first (length_prefixed_at 16 b) _ (chain_next (number_at 64 a) _ (n, b) seqno_is (chain_next (value_type_at bytes) _ (t, a) type_is whole))

      module _ (k c : List ℕ) (key_is : length_prefixed_at 16 b ≡ Some (k, c)) where
        -- after it the value
        pub full_value : IsSome (value_at t c)
        unfolding full_at
        full_value = chain_first (value_at t c) _ (chain_next (length_prefixed_at 16 b) _ (k, c) key_is (chain_next (number_at 64 a) _ (n, b) seqno_is (chain_next (value_type_at bytes) _ (t, a) type_is whole)))

        -- and decoding these parts makes the entry
        pub full_whole : (v d : List ℕ) → value_at t c ≡ Some (v, d) → full_at bytes ≡ Some (record { key = record { user_key = k; seqno = n; value_type = t }; value = v }, d)
        unfolding full_at
        full_whole v d value_is =
            let last = chain_next (value_at t c) _ (v, d) value_is (chain_next (length_prefixed_at 16 b) _ (k, c) key_is (chain_next (number_at 64 a) _ (n, b) seqno_is (chain_next (value_type_at bytes) _ (t, a) type_is whole))) in
            elim (cases_Bool (ltb 0 (length k))) [
              | inl some ↦ rw (type_is, seqno_is, key_is, value_is, some) refl
              | inr none ↦ (let q = rw none at last in cc (q))
            ]

  module _ (whole : IsSome (truncated_form_at bytes)) where
    -- after the value type of a truncated form its sequence number is encoded
    pub form_seqno : IsSome (number_at 64 a)
    unfolding truncated_form_at
    form_seqno = chain_first (number_at 64 a) _ (chain_next (value_type_at bytes) _ (t, a) type_is whole)

    module _ (n : ℕ) (b : List ℕ) (seqno_is : number_at 64 a ≡ Some (n, b)) where
      -- after it the length of the shared prefix
      pub form_shared : IsSome (number_at 16 b)
      unfolding truncated_form_at
      form_shared = chain_first (number_at 16 b) _ (chain_next (number_at 64 a) _ (n, b) seqno_is (chain_next (value_type_at bytes) _ (t, a) type_is whole))

      module _ (m : ℕ) (c : List ℕ) (shared_is : number_at 16 b ≡ Some (m, c)) where
        -- after it the rest of the key
        pub form_rest : IsSome (length_prefixed_at 16 c)
        unfolding truncated_form_at
        form_rest = chain_first (length_prefixed_at 16 c) _ (chain_next (number_at 16 b) _ (m, c) shared_is (chain_next (number_at 64 a) _ (n, b) seqno_is (chain_next (value_type_at bytes) _ (t, a) type_is whole)))

        module _ (k d : List ℕ) (rest_is : length_prefixed_at 16 c ≡ Some (k, d)) where
          -- after it the value
          pub form_value : IsSome (value_at t d)
          unfolding truncated_form_at
          form_value = chain_first (value_at t d) _ (chain_next (length_prefixed_at 16 c) _ (k, d) rest_is (chain_next (number_at 16 b) _ (m, c) shared_is (chain_next (number_at 64 a) _ (n, b) seqno_is (chain_next (value_type_at bytes) _ (t, a) type_is whole))))

          -- and decoding these parts makes the form
          pub form_whole : (v e : List ℕ) → value_at t d ≡ Some (v, e) → truncated_form_at bytes ≡ Some (record { value_type = t; seqno = n; shared = m; rest = k; value = v }, e)
          unfolding truncated_form_at
          form_whole v e value_is = rw (type_is, seqno_is, shared_is, rest_is, value_is) refl

-- where a truncated form is encoded after a head with this key, a truncated form is encoded, whatever the head
pub form_some : (base bytes : List ℕ) → IsSome (truncated_at base bytes) → IsSome (truncated_form_at bytes)
unfolding truncated_at
form_some base bytes h = chain_first (truncated_form_at bytes) _ h

-- what a truncated form says of the key after its head: the length of the shared prefix, and the rest
pub form_key : (base bytes : List ℕ) (t : Truncated) (end : List ℕ) (x : Entry) (rest : List ℕ) → truncated_form_at bytes ≡ Some (t, end) → truncated_at base bytes ≡ Some (x, rest)
    → (t.shared ≡ shared_prefix_length base x.key.user_key) × (t.rest ≡ drop t.shared x.key.user_key) × (t.seqno ≡ x.key.seqno) × (end ≡ rest)
form_key base bytes t end x rest form read =
    let p = truncated_parts base bytes x rest read in
    let s = one_reading (truncated_form_at bytes) (t, end) p.said rest form p.form_is in
    let e : joined_to base t ≡ x = ap (joined_to base) s.0 ∙ p.entry_is in
    let key : take t.shared base ++ t.rest ≡ x.key.user_key = ap (λ (y : Entry). y.key.user_key) e in
    let inside : t.shared ≤ length base = subst (λ (u : Truncated). u.shared ≤ length base) (sym s.0) p.inside in
    let longest : shared_prefix_length base (take t.shared base ++ t.rest) ≡ t.shared = subst (λ (u : Truncated). shared_prefix_length base (take u.shared base ++ u.rest) ≡ u.shared) (sym s.0) p.longest in (
      sym longest ∙ ap (shared_prefix_length base) key,
      sym (drop_at (take t.shared base) t.rest t.shared (length-take-le t.shared base inside)) ∙ ap (drop t.shared) key,
      ap (λ (y : Entry). y.key.seqno) e,
      s.1,
    )

-- an entry whose full form is encoded in bytes is within the limits
pub full_fits : (payload : List ℕ) (offset : ℕ) (x : Entry) (rest : List ℕ) → IsBytes payload → full_at (drop offset payload) ≡ Some (x, rest) → IsEntry x
full_fits payload offset x rest b e = let l = IsKind-entries in (l.full_takes (drop offset payload) x rest (IsBytes-drop offset payload b) e).1

-- so is an entry whose truncated form is encoded in bytes
pub truncated_fits : (payload : List ℕ) (offset : ℕ) (base : List ℕ) (x : Entry) (rest : List ℕ) → IsBytes payload → truncated_at base (drop offset payload) ≡ Some (x, rest) → IsEntry x
truncated_fits payload offset base x rest b e = let l = IsKind-entries in (l.truncated_takes base (drop offset payload) x rest (IsBytes-drop offset payload b) e).1
