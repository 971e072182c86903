-- What decoding an entry says of its parts.
use Rattle.std.proofs.Common.{◌≡◌, ℕ, ◌+◌, ◌-◌, ◌≤◌, List, [], ◌∷◌, ◌++◌, true, length, take, drop, arith, sym, ◌∙◌, ap, Option, Some, None, ltb, length-append, length-drop}
use Rattle.std.proofs.lemmas.List.{take-append-le, length-take-le}
use Rattle.std.proofs.lemmas.Bool.{eq-eqb, le-leb}
use Rattle.std.proofs.lemmas.Option.{cond_some}
use Rattle.sst_base.specs.declared.value_type.ValueType.{ValueType}
use Rattle.sst_base.specs.Entry.{Entry}
use Rattle.sst_base.specs.Reading.{value_type_at, number_at, length_prefixed_at}
use Rattle.sst_base.specs.SharedPrefix.{shared_prefix_length}
use Rattle.sst_base.specs.SharedPrefixLaws.{shared_prefix_inside}
use Rattle.sst_base.specs.declared.table.util.SliceIndexes.{SliceIndexes}
use Rattle.sst_base.specs.ReadingLaws.{bind_some, pair_parts}
use Rattle.sst_block_core.specs.Entries.{Truncated, value_at, full_at, truncated_form_at, truncated_at, is_truncation, joined_to}
use Rattle.sst_block_core.specs.EntryLaws.{truncation_parts}
use Rattle.sst_block_core.specs.Found.{IsEncodedAt, IsRange, range_bytes, optional_range}
use Rattle.sst_block_core.specs.ParsedEntry.{entry_of, truncated_of, IsKeyLength}
use Rattle.sst_block_core.specs.declared.table.data_block.parsed_item.DataBlockParsedItem.{DataBlockParsedItem}
use Rattle.sst_block_core.specs.declared.table.data_block.decoding.TruncatedForm.{TruncatedForm}
use Rattle.sst_block_core.specs.FoundLaws.{length-range}

-- decoding the same bytes twice gives the same result
pub one_reading : {A : Type 0} (o : Option (A × List ℕ)) (t : A × List ℕ) (a : A) (r : List ℕ) → o ≡ Some t → o ≡ Some (a, r) → (t.0 ≡ a) × (t.1 ≡ r)
one_reading {A = A} o t a r p q =
    let s : ◌≡◌ {A = Option (A × List ℕ)} (Some t) (Some (a, r)) = sym p ∙ q in
    let e : ◌≡◌ {A = A × List ℕ} (t.0, t.1) (a, r) = cc in
    pair_parts t.0 a t.1 r e

pub no_reading : {A : Type 0} (o : Option A) (t : A) → o ≡ Some t → o ≡ None → ⊥
no_reading o t p q = let e : Some t ≡ None = sym p ∙ q in cc

-- the parts that a full form begins with
pub record FullParts (bytes : List ℕ) (x : Entry) : Type 0 where
  pub value_type : ValueType × List ℕ
  pub seqno : ℕ × List ℕ
  pub key : List ℕ × List ℕ
  pub value_type_is : value_type_at bytes ≡ Some value_type
  pub seqno_is : number_at 64 value_type.1 ≡ Some seqno
  pub key_is : length_prefixed_at 16 seqno.1 ≡ Some key
  pub same_seqno : seqno.0 ≡ x.key.seqno
  pub same_key : key.0 ≡ x.key.user_key

pub full_parts : (bytes : List ℕ) (x : Entry) (rest : List ℕ) → full_at bytes ≡ Some (x, rest) → FullParts bytes x
unfolding full_at
full_parts bytes x rest h =
    let f0 = bind_some (value_type_at bytes) _ (x, rest) h in
    let f1 = bind_some (number_at 64 f0.0.1) _ (x, rest) f0.2 in
    let f2 = bind_some (length_prefixed_at 16 f1.0.1) _ (x, rest) f1.2 in
    let f3 = bind_some (value_at f0.0.0 f2.0.1) _ (x, rest) f2.2 in
    let found : Entry = record { key = record { user_key = f2.0.0; seqno = f1.0.0; value_type = f0.0.0 }; value = f3.0.0 } in
    let g = cond_some (ltb 0 (length f2.0.0)) (found, f3.0.1) (x, rest) f3.2 in
    let p = pair_parts found x f3.0.1 rest g.1 in
    record {
      value_type = f0.0;
      seqno = f1.0;
      key = f2.0;
      value_type_is = f0.1;
      seqno_is = f1.1;
      key_is = f2.1;
      same_seqno = ap (λ (e : Entry). e.key.seqno) p.0;
      same_key = ap (λ (e : Entry). e.key.user_key) p.0;
    }

-- the parts of a truncated form after a head with this key
pub record TruncatedParts (base bytes : List ℕ) (x : Entry) (rest : List ℕ) : Type 0 where
  pub said : Truncated
  pub form_is : truncated_form_at bytes ≡ Some (said, rest)
  pub inside : said.shared ≤ length base
  pub longest : shared_prefix_length base (take said.shared base ++ said.rest) ≡ said.shared
  pub some : 1 ≤ said.shared + length said.rest
  pub most : said.shared + length said.rest ≤ 65535
  pub entry_is : joined_to base said ≡ x

pub truncated_parts : (base bytes : List ℕ) (x : Entry) (rest : List ℕ) → truncated_at base bytes ≡ Some (x, rest) → TruncatedParts base bytes x rest
unfolding truncated_at
truncated_parts base bytes x rest h =
    let f = bind_some (truncated_form_at bytes) _ (x, rest) h in
    let t = f.0.0 in
    let key = take t.shared base ++ t.rest in
    let g = cond_some (is_truncation base t.shared key) (joined_to base t, f.0.1) (x, rest) f.2 in
    let p = pair_parts (joined_to base t) x f.0.1 rest g.1 in
    let k = truncation_parts base t.shared key g.0 in
    let inside : t.shared ≤ length base = let s = (shared_prefix_inside base key).0 in let e = k.0 in omega arith in
    let l : length key ≡ t.shared + length t.rest = let n = length-take-le t.shared base inside in omega (arith, length-append (take t.shared base) t.rest, n) in
    record {
      said = t;
      form_is = f.1 ∙ ap (λ r. Some (t, r)) p.1;
      inside = inside;
      longest = k.0;
      some = let a = k.1 in omega arith;
      most = let a = k.2 in omega arith;
      entry_is = p.0;
    }

-- a prefix of the bytes at an offset, by its range
pub range_of-front : (payload : List ℕ) (offset n : ℕ) (base : List ℕ) → IsEncodedAt payload offset base → n ≤ length base
    → (offset + n ≤ length payload) × (range_bytes payload (record { 0 = offset; 1 = offset + n }) ≡ take n base)
range_of-front payload offset n base encoded h =
    let d = length-drop offset payload in
    let l = ap length encoded.there ∙ length-append base encoded.after in
    let inside = encoded.inside in
    let e : (offset + n) - offset ≡ n = omega arith in
    (omega arith, ap (λ k. take k (drop offset payload)) e ∙ ap (take n) encoded.there ∙ take-append-le n base encoded.after h)

pub key_and_seqno : (bytes : List ℕ) (x : Entry) (p : FullParts bytes x) (t : ValueType) (a : List ℕ) (n : ℕ) (b k c : List ℕ)
    → value_type_at bytes ≡ Some (t, a) → number_at 64 a ≡ Some (n, b) → length_prefixed_at 16 b ≡ Some (k, c) → (k ≡ x.key.user_key) × (n ≡ x.key.seqno)
key_and_seqno bytes x p t a n b k c e f g =
    let s = one_reading (value_type_at bytes) p.value_type t a p.value_type_is e in
    let r = one_reading (number_at 64 p.value_type.1) p.seqno n b p.seqno_is (ap (number_at 64) s.1 ∙ f) in
    let q = one_reading (length_prefixed_at 16 p.seqno.1) p.key k c p.key_is (ap (length_prefixed_at 16) r.1 ∙ g) in
    (sym q.0 ∙ p.same_key, sym r.0 ∙ p.same_seqno)

-- the item that a parser makes of a truncated form and of where the head's key begins
abbrev pub parsed_of : ℕ → TruncatedForm → DataBlockParsedItem
parsed_of base_offset f = record { value_type = f.value_type; seqno = f.seqno; prefix = Some (record { 0 = base_offset; 1 = base_offset + f.shared }); key = f.key; value = f.value }

-- where a truncated form is encoded after a head, the parser returns its prefix and its entry
pub truncated_found : (payload bytes base : List ℕ) (base_offset end : ℕ) (f : TruncatedForm) (x : Entry) (rest : List ℕ) → IsEncodedAt payload base_offset base
    → IsRange payload f.key → truncated_at base bytes ≡ Some (x, rest) → truncated_form_at bytes ≡ Some (truncated_of payload f, drop end payload)
    → (base_offset + f.shared ≤ length payload) × IsKeyLength (f.shared + (f.key.1 - f.key.0)) × (entry_of payload (parsed_of base_offset f) ≡ x) × (drop end payload ≡ rest)
truncated_found payload bytes base base_offset end f x rest encoded range read form =
    let p = truncated_parts base bytes x rest read in
    let s = one_reading (truncated_form_at bytes) (p.said, rest) (truncated_of payload f) (drop end payload) p.form_is form in
    let n : p.said.shared ≡ f.shared = ap (λ (t : Truncated). t.shared) s.0 in
    let l : length p.said.rest ≡ f.key.1 - f.key.0 = ap (λ (t : Truncated). length t.rest) s.0 ∙ length-range payload f.key range.order range.inside in
    let inside = p.inside in
    let some = p.some in
    let most = p.most in
    let front = range_of-front payload base_offset f.shared base encoded (omega arith) in (
      front.0,
      (omega arith, omega arith),
      (λ i. record { key = record { user_key = front.1 i ++ range_bytes payload f.key; seqno = f.seqno; value_type = f.value_type }; value = optional_range payload f.value })
          ∙ ap (joined_to base) (sym s.0) ∙ p.entry_is,
      sym s.1,
    )

-- where the shared prefix is the longest, the result is the decoded entry
pub truncated_read : (payload bytes base : List ℕ) (base_offset end : ℕ) (f : TruncatedForm) (prefix : SliceIndexes) → IsEncodedAt payload base_offset base
    → IsRange payload f.key → prefix ≡ record { 0 = base_offset; 1 = base_offset + f.shared } → IsKeyLength (f.shared + (f.key.1 - f.key.0))
    → prefix.1 - prefix.0 ≡ shared_prefix_length base (range_bytes payload prefix ++ range_bytes payload f.key)
    → truncated_form_at bytes ≡ Some (truncated_of payload f, drop end payload)
    → truncated_at base bytes ≡ Some (entry_of payload (record { value_type = f.value_type; seqno = f.seqno; prefix = Some prefix; key = f.key; value = f.value }), drop end payload)
unfolding truncated_at
truncated_read payload bytes base base_offset end f prefix encoded range is fits longest form =
    let n = f.shared in
    let rest = range_bytes payload f.key in
    let len : prefix.1 - prefix.0 ≡ n = ap (λ (p : SliceIndexes). p.1 - p.0) is ∙ (let e : (base_offset + n) - base_offset ≡ n = omega arith in e) in
    let inside = (shared_prefix_inside base (range_bytes payload prefix ++ rest)).0 in
    let front = range_of-front payload base_offset n base encoded (omega (arith, len, longest, inside)) in
    let same : range_bytes payload prefix ≡ take n base = ap (range_bytes payload) is ∙ front.1 in
    let shared : shared_prefix_length base (take n base ++ rest) ≡ n = ap (λ k. shared_prefix_length base (k ++ rest)) (sym same) ∙ sym longest ∙ len in
    let l : length (take n base ++ rest) ≡ n + (f.key.1 - f.key.0) =
    let a = length-take-le n base (omega (arith, len, longest, inside)) in
    let b = length-range payload f.key range.order range.inside in
    omega (arith, length-append (take n base) rest, a, b) in
    let some = fits.0 in
    let most = fits.1 in
    let truncation : is_truncation base n (take n base ++ rest) ≡ true = rw (eq-eqb _ _ shared, le-leb 1 (length (take n base ++ rest)) (omega (arith, l, some))) (le-leb (length (take n base ++ rest)) 65535 (omega (arith, l, most))) in
    rw (form, truncation) (λ i. Some (record { key = record { user_key = sym same i ++ rest; seqno = f.seqno; value_type = f.value_type }; value = optional_range payload f.value }, drop end payload))

-- no truncated form begins with the marker
pub marker_truncated : (payload : List ℕ) (offset : ℕ) (t : Truncated × List ℕ) → IsEncodedAt payload offset (255 ∷ []) → truncated_form_at (drop offset payload) ≡ Some t → ⊥
unfolding truncated_form_at
marker_truncated payload offset t encoded form =
    let none : truncated_form_at (drop offset payload) ≡ None = ap truncated_form_at encoded.there in
    no_reading (truncated_form_at (drop offset payload)) t form none
