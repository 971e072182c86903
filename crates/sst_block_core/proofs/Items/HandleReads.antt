-- Forms of handles that are decoded or encoded at an offset: their parts, one after the other.
use Rattle.std.proofs.Common.{◌≡◌, ℕ, ◌+◌, ◌-◌, ◌<◌, ◌≤◌, List, [], ◌∷◌, ◌++◌, length, take, drop, get_or, refl, sym, ap, ◌∙◌, inl, inr, Some, None, true, false, eqb, arith, length-append}
use Rattle.std.specs.Option.{IsSome}
use Rattle.std.proofs.lemmas.List.{drop_all, drop_more, length-take-le}
use Rattle.std.proofs.lemmas.Bool.{cases_lt, eq-eqb, le-leb}
use Rattle.std.proofs.lemmas.Option.{cond_some, same_Some}
use Rattle.sst_base.specs.Bytes.{IsBytes}
use Rattle.sst_base.specs.BytesLaws.{IsBytes-drop}
use Rattle.sst_base.specs.Reading.{number_at, length_prefixed_at}
use Rattle.sst_base.specs.ReadingLaws.{pair_parts, some_value, chain_first, chain_next}
use Rattle.sst_base.specs.SharedPrefix.{shared_prefix_length}
use Rattle.sst_base.specs.SharedPrefixLaws.{shared_prefix_inside}
use Rattle.sst_base.specs.declared.table.util.SliceIndexes.{SliceIndexes}
use Rattle.sst_block_core.specs.Found.{IsEncodedAt, IsRange, range_bytes}
use Rattle.sst_block_core.specs.Handles.{Handle, IsHandle, Fields, handle_with, marker_at, fields_at, full_at, truncated_at, is_truncation}
use Rattle.sst_block_core.specs.HandleLaws.{IsKind-handles, truncation_parts}
use Rattle.sst_block_core.specs.FoundLaws.{length-range}
use Rattle.sst_block_core.proofs.Items.EntryReads.{no_reading, range_of-front}

-- where the fields of a handle are encoded, so is its marker
pub marker_some : (at : ℕ) (payload : List ℕ) → IsSome (fields_at (drop at payload)) → (at < length payload) × (marker_at (drop at payload) ≡ Some (drop (at + 1) payload))
unfolding fields_at
marker_some at payload whole =
    let v = some_value (marker_at (drop at payload)) (chain_first (marker_at (drop at payload)) _ whole) in
    elim (cases_lt at (length payload)) [
      | inr past ↦ absurd (no_reading (marker_at (drop at payload)) v.0 v.1 (ap marker_at (drop_all at payload past)))
      | inl less ↦
          let here = drop_more payload at 0 less in
          let g = cond_some (eqb (get_or payload at 0) 0) (drop (at + 1) payload) v.0 (sym (ap marker_at here) ∙ v.1) in
          (less, v.1 ∙ ap (λ ys. Some ys) (sym g.1))
    ]

module _ (bytes a : List ℕ) (marker_is : marker_at bytes ≡ Some a) (whole : IsSome (fields_at bytes)) where
  -- after it the offset
  pub front_offset : IsSome (number_at 64 a)
  unfolding fields_at
  front_offset = chain_first (number_at 64 a) _ (chain_next (marker_at bytes) _ a marker_is whole)

  module _ (o : ℕ) (b : List ℕ) (offset_is : number_at 64 a ≡ Some (o, b)) where
    -- after it the size
    pub front_size : IsSome (number_at 32 b)
    unfolding fields_at
    front_size = chain_first (number_at 32 b) _ (chain_next (number_at 64 a) _ (o, b) offset_is (chain_next (marker_at bytes) _ a marker_is whole))

    module _ (s : ℕ) (c : List ℕ) (size_is : number_at 32 b ≡ Some (s, c)) where
      -- after it the sequence number
      pub front_seqno : IsSome (number_at 64 c)
      unfolding fields_at
      front_seqno = chain_first (number_at 64 c) _ (chain_next (number_at 32 b) _ (s, c) size_is (chain_next (number_at 64 a) _ (o, b) offset_is (chain_next (marker_at bytes) _ a marker_is whole)))

      -- and decoding these parts makes the fields
      pub front_whole : (n : ℕ) (d : List ℕ) → number_at 64 c ≡ Some (n, d) → fields_at bytes ≡ Some (record { offset = o; size = s; seqno = n }, d)
      unfolding fields_at
      front_whole n d seqno_is = rw (marker_is, offset_is, size_is, seqno_is) refl

-- where a form is encoded, its fields are
pub full_front : (bytes : List ℕ) → IsSome (full_at bytes) → IsSome (fields_at bytes)
unfolding full_at
full_front bytes whole = chain_first (fields_at bytes) _ whole

pub truncated_front : (base bytes : List ℕ) → IsSome (truncated_at base bytes) → IsSome (fields_at bytes)
unfolding truncated_at
truncated_front base bytes whole = chain_first (fields_at bytes) _ whole

-- where no fields are decoded, no form is
pub full_no_front : (bytes : List ℕ) → fields_at bytes ≡ None → full_at bytes ≡ None
unfolding full_at
full_no_front bytes none = rw none refl

pub truncated_no_front : (base bytes : List ℕ) → fields_at bytes ≡ None → truncated_at base bytes ≡ None
unfolding truncated_at
truncated_no_front base bytes none = rw none refl

module _ (bytes : List ℕ) (f : Fields) (a : List ℕ) (front_is : fields_at bytes ≡ Some (f, a)) where
  -- nor where what follows them is not decoded
  pub full_no_key : length_prefixed_at 16 a ≡ None → full_at bytes ≡ None
  unfolding full_at
  full_no_key none = rw (front_is, none) refl

  pub truncated_no_shared : (base : List ℕ) → number_at 16 a ≡ None → truncated_at base bytes ≡ None
  unfolding truncated_at
  truncated_no_shared base none = rw (front_is, none) refl

  pub truncated_no_rest : (base : List ℕ) (n : ℕ) (b : List ℕ) → number_at 16 a ≡ Some (n, b) → length_prefixed_at 16 b ≡ None → truncated_at base bytes ≡ None
  unfolding truncated_at
  truncated_no_rest base n b shared_is none = rw (front_is, shared_is, none) refl

  -- after the fields of a full form its end key is encoded
  pub full_key : IsSome (full_at bytes) → IsSome (length_prefixed_at 16 a)
  unfolding full_at
  full_key whole = chain_first (length_prefixed_at 16 a) _ (chain_next (fields_at bytes) _ (f, a) front_is whole)

  -- and decoding both makes the handle
  pub full_whole : (k c : List ℕ) → length_prefixed_at 16 a ≡ Some (k, c) → full_at bytes ≡ Some (handle_with f k, c)
  unfolding full_at
  full_whole k c key_is = rw (front_is, key_is) refl

  -- so a handle that is decoded is made of both
  pub full_is : (k c : List ℕ) (x : Handle) (rest : List ℕ) → length_prefixed_at 16 a ≡ Some (k, c) → full_at bytes ≡ Some (x, rest) → (handle_with f k ≡ x) × (c ≡ rest)
  full_is k c x rest key_is read = let e : ◌≡◌ {A = Handle × List ℕ} (handle_with f k, c) (x, rest) = same_Some (handle_with f k, c) (x, rest) (sym (full_whole k c key_is) ∙ read) in pair_parts (handle_with f k) x c rest e

  module _ (base : List ℕ) where
    -- after the fields of a truncated form the length of the shared prefix is encoded
    pub truncated_shared : IsSome (truncated_at base bytes) → IsSome (number_at 16 a)
    unfolding truncated_at
    truncated_shared whole = chain_first (number_at 16 a) _ (chain_next (fields_at bytes) _ (f, a) front_is whole)

    module _ (n : ℕ) (b : List ℕ) (shared_is : number_at 16 a ≡ Some (n, b)) where
      -- after it the rest of the end key
      pub truncated_rest : IsSome (truncated_at base bytes) → IsSome (length_prefixed_at 16 b)
      unfolding truncated_at
      truncated_rest whole = chain_first (length_prefixed_at 16 b) _ (chain_next (number_at 16 a) _ (n, b) shared_is (chain_next (fields_at bytes) _ (f, a) front_is whole))

      module _ (k c : List ℕ) (rest_is : length_prefixed_at 16 b ≡ Some (k, c)) where
        -- decoding these parts makes the handle, where the shared prefix is the longest
        pub truncated_whole : is_truncation base n (take n base ++ k) ≡ true → truncated_at base bytes ≡ Some (handle_with f (take n base ++ k), c)
        unfolding truncated_at
        truncated_whole is = rw (front_is, shared_is, rest_is, is) refl

        -- and where it is not the longest, none is decoded
        pub truncated_other : is_truncation base n (take n base ++ k) ≡ false → truncated_at base bytes ≡ None
        unfolding truncated_at
        truncated_other other = rw (front_is, shared_is, rest_is, other) refl

        -- and the parts of a handle that is decoded
        pub truncated_is : (x : Handle) (rest : List ℕ) → truncated_at base bytes ≡ Some (x, rest)
            → (is_truncation base n (take n base ++ k) ≡ true) × (handle_with f (take n base ++ k) ≡ x) × (c ≡ rest)
        unfolding truncated_at
        truncated_is x rest read =
            let q = rw (front_is, shared_is, rest_is) at read in
            let g = cond_some (is_truncation base n (take n base ++ k)) (handle_with f (take n base ++ k), c) (x, rest) q in
            let p = pair_parts (handle_with f (take n base ++ k)) x c rest g.1 in
            (g.0, p.0, p.1)

-- no form begins with the marker of the trailer
pub marker_ends : (payload : List ℕ) (offset : ℕ) (t : Fields × List ℕ) → IsEncodedAt payload offset (255 ∷ []) → fields_at (drop offset payload) ≡ Some t → ⊥
unfolding fields_at
marker_ends payload offset t encoded form =
    let none : fields_at (drop offset payload) ≡ None = ap fields_at encoded.there in
    no_reading (fields_at (drop offset payload)) t form none

module _ (payload bytes base : List ℕ) (base_offset end n : ℕ) (f : Fields) (a b : List ℕ) (key : SliceIndexes) (encoded : IsEncodedAt payload base_offset base) (range : IsRange payload key)
    (front_is : fields_at bytes ≡ Some (f, a)) (shared_is : number_at 16 a ≡ Some (n, b)) (rest_is : length_prefixed_at 16 b ≡ Some (range_bytes payload key, drop end payload)) where
  -- where a truncated form is encoded after a head, the parser returns its prefix and its handle
  pub truncated_found : (x : Handle) (rest : List ℕ) → truncated_at base bytes ≡ Some (x, rest)
      → (base_offset + n ≤ length payload) × (n + (key.1 - key.0) ≤ 65535) × (handle_with f (range_bytes payload (record { 0 = base_offset; 1 = base_offset + n }) ++ range_bytes payload key) ≡ x)
      × (drop end payload ≡ rest) × (n ≡ shared_prefix_length base x.end_key)
  truncated_found x rest read =
      let r = range_bytes payload key in
      let t = truncated_is bytes f a front_is base n b shared_is r (drop end payload) rest_is x rest read in
      let k = truncation_parts base n (take n base ++ r) t.0 in
      let longest = k.0 in
      let most = k.1 in
      let inside : n ≤ length base = let s = (shared_prefix_inside base (take n base ++ r)).0 in omega (arith, s, longest) in
      let prefix = range_of-front payload base_offset n base encoded inside in
      let l : length (take n base ++ r) ≡ n + (key.1 - key.0) = let m = length-take-le n base inside in let o = length-range payload key range.order range.inside in omega (arith, length-append (take n base) r, m, o) in (
        prefix.0,
        omega (arith, l, most),
        (λ i. handle_with f (prefix.1 i ++ r)) ∙ t.1,
        t.2,
        sym longest ∙ ap (λ (h : Handle). shared_prefix_length base h.end_key) t.1,
      )

  -- where the shared prefix is the longest, the result is the decoded handle
  pub truncated_read : (prefix : SliceIndexes) → prefix ≡ record { 0 = base_offset; 1 = base_offset + n } → n + (key.1 - key.0) ≤ 65535
      → prefix.1 - prefix.0 ≡ shared_prefix_length base (range_bytes payload prefix ++ range_bytes payload key)
      → truncated_at base bytes ≡ Some (handle_with f (range_bytes payload prefix ++ range_bytes payload key), drop end payload)
  truncated_read prefix is most longest =
      let r = range_bytes payload key in
      let len : prefix.1 - prefix.0 ≡ n = ap (λ (p : SliceIndexes). p.1 - p.0) is ∙ (let e : (base_offset + n) - base_offset ≡ n = omega arith in e) in
      let inside : n ≤ length base = let s = (shared_prefix_inside base (range_bytes payload prefix ++ r)).0 in omega (arith, len, longest, s) in
      let fields' = range_of-front payload base_offset n base encoded inside in
      let same : range_bytes payload prefix ≡ take n base = ap (range_bytes payload) is ∙ fields'.1 in
      let shared : shared_prefix_length base (take n base ++ r) ≡ n = ap (λ k. shared_prefix_length base (k ++ r)) (sym same) ∙ sym longest ∙ len in
      let l : length (take n base ++ r) ≡ n + (key.1 - key.0) = let m = length-take-le n base inside in let o = length-range payload key range.order range.inside in omega (arith, length-append (take n base) r, m, o) in
      let truncation : is_truncation base n (take n base ++ r) ≡ true = rw (eq-eqb _ _ shared) (le-leb (length (take n base ++ r)) 65535 (omega (arith, l, most))) in
      truncated_whole bytes f a front_is base n b shared_is r (drop end payload) rest_is truncation ∙ (λ i. Some (handle_with f (sym same i ++ r), drop end payload))

-- a handle whose form is encoded in bytes is within the limits
pub full_fits : (payload : List ℕ) (offset : ℕ) (x : Handle) (rest : List ℕ) → IsBytes payload → full_at (drop offset payload) ≡ Some (x, rest) → IsHandle x
full_fits payload offset x rest b e = let l = IsKind-handles in (l.full_takes (drop offset payload) x rest (IsBytes-drop offset payload b) e).1

pub truncated_fits : (payload : List ℕ) (offset : ℕ) (base : List ℕ) (x : Handle) (rest : List ℕ) → IsBytes payload → truncated_at base (drop offset payload) ≡ Some (x, rest) → IsHandle x
truncated_fits payload offset base x rest b e = let l = IsKind-handles in (l.truncated_takes base (drop offset payload) x rest (IsBytes-drop offset payload b) e).1
