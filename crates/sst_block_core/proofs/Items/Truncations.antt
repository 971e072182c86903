-- Whether a truncated key shares its longest prefix with a base key, by their ranges of a payload.
use Rattle.std.proofs.Common.{◌≡◌, ℕ, ◌+◌, ◌-◌, ◌≤◌, List, ◌++◌, length, take, drop, arith, sym, ◌∙◌, ap, true, false, eqb, length-append}
use Rattle.std.proofs.lemmas.List.{length-take-le, take-take}
use Rattle.std.proofs.lemmas.Bool.{eqb-true}
use Rattle.sst_base.specs.declared.table.util.SliceIndexes.{SliceIndexes}
use Rattle.sst_base.specs.SharedPrefix.{shared_prefix_length}
use Rattle.sst_base.specs.SharedPrefixLaws.{shared_prefix_inside}
use Rattle.sst_block_core.specs.Found.{IsRange, range_bytes}
use Rattle.sst_block_core.specs.FoundLaws.{length-range}

-- the whole key of a shared length and a rest, after a base key
abbrev pub key_with : List ℕ → SliceIndexes → ℕ → SliceIndexes → List ℕ
key_with payload base n key = take n (range_bytes payload base) ++ range_bytes payload key

module _ (payload : List ℕ) (base key : SliceIndexes) (n : ℕ) (b rest : List ℕ) (base_in : IsRange payload base) (key_in : IsRange payload key) (b_is : b ≡ range_bytes payload base) (rest_is : rest ≡ range_bytes payload key) where
  same_test : eqb (shared_prefix_length b (take n b ++ rest)) n ≡ eqb (shared_prefix_length (range_bytes payload base) (key_with payload base n key)) n
  same_test = λ i. eqb (shared_prefix_length (b_is i) (take n (b_is i) ++ rest_is i)) n

  -- the shared prefix is not the longest
  pub not_greatest : false ≡ eqb (shared_prefix_length b (take n b ++ rest)) n → eqb (shared_prefix_length (range_bytes payload base) (key_with payload base n key)) n ≡ false
  not_greatest differs = sym (differs ∙ same_test)

  -- the shared prefix is the longest
  module _ (same : true ≡ eqb (shared_prefix_length b (take n b ++ rest)) n) where
    pub greatest : eqb (shared_prefix_length (range_bytes payload base) (key_with payload base n key)) n ≡ true
    greatest = sym (same ∙ same_test)

    shared_in : n ≤ base.1 - base.0
    shared_in =
        let s = (shared_prefix_inside (range_bytes payload base) (key_with payload base n key)).0 in
        let e = eqb-true _ _ greatest in
        let l = length-range payload base base_in.order base_in.inside in
        omega arith

    -- then the prefix lies in the payload
    pub front_inside : base.0 + n ≤ length payload
    front_inside = let s = shared_in in let i = base_in.inside in let o = base_in.order in omega arith

    pub front_is : take n (range_bytes payload base) ≡ range_bytes payload (record { 0 = base.0; 1 = base.0 + n })
    front_is =
        let e : (base.0 + n) - base.0 ≡ n = omega arith in
        take-take n (base.1 - base.0) (drop base.0 payload) shared_in ∙ ap (λ k. take k (drop base.0 payload)) (sym e)

    -- and the whole key has both lengths
    pub whole_length : length (key_with payload base n key) ≡ n + (key.1 - key.0)
    whole_length =
        let l = length-range payload base base_in.order base_in.inside in
        let s = shared_in in
        let t : length (take n (range_bytes payload base)) ≡ n = length-take-le n (range_bytes payload base) (omega arith) in
        let k = length-range payload key key_in.order key_in.inside in
        omega (arith, length-append (take n (range_bytes payload base)) (range_bytes payload key))
