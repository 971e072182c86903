-- The shared prefix of an item lies in the payload, and is the whole key of a head after which the form is encoded.
use Rattle.std.proofs.Common.{◌≡◌, ℕ, suc, ◌+◌, ◌-◌, cond, List, [], ◌∷◌, ◌++◌, length, take, drop, refl, arith, sym, ◌∙◌, ap, length-drop}
use Rattle.std.proofs.lemmas.Bool.{eq-eqb}
use Rattle.std.proofs.lemmas.List.{length-take-le, take-append-drop}
use Rattle.sst_base.specs.SharedPrefix.{shared_prefix_length}
use Rattle.sst_base.specs.declared.table.util.SliceIndexes.{SliceIndexes}
use Rattle.sst_block_core.specs.Found.{IsRange, IsEncodedAt, range_bytes}

-- a byte string shares all its bytes with a string that begins with it
shared_whole : (base rest : List ℕ) → shared_prefix_length base (base ++ rest) ≡ length base
shared_whole [] rest = refl
shared_whole (x ∷ xs) rest = ap (λ t. cond t (suc (shared_prefix_length xs (xs ++ rest))) 0) (eq-eqb x x refl) ∙ ap suc (shared_whole xs rest)

module _ (payload : List ℕ) (base_offset n : ℕ) (prefix : SliceIndexes) (is : prefix ≡ record { 0 = base_offset; 1 = base_offset + n }) (range : IsRange payload prefix) where
  -- the bytes of the prefix
  abbrev pub own_base : List ℕ
  own_base = take (prefix.1 - prefix.0) (drop base_offset payload)

  pub own_range : range_bytes payload prefix ≡ own_base
  own_range = ap (λ (p : SliceIndexes). take (prefix.1 - prefix.0) (drop p.0 payload)) is

  pub length-own : length own_base ≡ prefix.1 - prefix.0
  length-own =
      let start : prefix.0 ≡ base_offset = ap (λ (p : SliceIndexes). p.0) is in
      let inside = range.inside in
      length-take-le (prefix.1 - prefix.0) (drop base_offset payload) (omega (arith, start, inside, length-drop base_offset payload))

  pub own_encoded : IsEncodedAt payload base_offset own_base
  own_encoded = record {
    inside = let start : prefix.0 ≡ base_offset = ap (λ (p : SliceIndexes). p.0) is in let order = range.order in let inside = range.inside in omega (arith, start, order, inside);
    after = drop (prefix.1 - prefix.0) (drop base_offset payload);
    there = sym (take-append-drop (prefix.1 - prefix.0) (drop base_offset payload));
  }

  -- after a head with this key the shared prefix is the longest
  pub own_longest : (rest : List ℕ) → prefix.1 - prefix.0 ≡ shared_prefix_length own_base (range_bytes payload prefix ++ rest)
  own_longest rest = sym (ap (λ k. shared_prefix_length own_base (k ++ rest)) own_range ∙ shared_whole own_base rest ∙ length-own)
