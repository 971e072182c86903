-- A pass that tallies buckets, one item more.
use Rattle.std.proofs.Common.{◌≡◌, ℕ, ◌+◌, ◌*◌, ◌/◌, ◌%◌, ◌<◌, ◌≤◌, List, [], ◌∷◌, ◌++◌, length, drop, get_or, set, replicate, sym, ap, subst, ◌∙◌, arith, inl, inr, cond, eqb, true, false, length-set, length-drop}
use Rattle.std.proofs.lemmas.Bool.{cases_eq, cases_lt, eq-eqb, ne_eqb}
use Rattle.std.proofs.lemmas.Nat.{mod_below}
use Rattle.std.proofs.Math.Nat.{div-eq_of_lt, mod-eq_of_lt}
use Rattle.std.proofs.lemmas.List.{get_or-replicate, length-replicate, get_or-set_same, get_or-set_other, length-take-le, length_push}
use Rattle.sst_block_core.specs.Kind.{Kind}
use Rattle.sst_block_core.specs.Trailer.{Trailer}
use Rattle.sst_block_core.specs.Pointers.{head_count}
use Rattle.sst_block_core.specs.Buckets.{bucket, bucket_byte_with}
use Rattle.sst_block_core.specs.Stages.{HasParts, HasForms, HasBuckets, body_in, buckets_in, items_by}
use Rattle.sst_block_core.specs.Passes.{TallyState, IsHashed, IsBegun, IsTallied, HasTallied}
use Rattle.sst_block_core.specs.BucketLaws.{bucket_push}
use Rattle.sst_block_core.specs.OpeningLaws.{length-items_at}
use Rattle.sst_block_core.specs.PointerLaws.{each_alike, each_whole, heads_behind, heads_at_multiple, heads_inside}

-- the number of heads with one item more, by the number before
heads_next : (r place heads more phase : ℕ) → 0 < r → heads ≡ head_count r place → head_count r (place + 1) ≤ 254 → phase ≡ place % r → (phase ≡ 0 → more ≡ (heads + 1) % 256) → (0 < phase → more ≡ heads)
    → more ≡ place / r + 1
heads_next r place heads more phase pos e few p head rest =
    let b = heads_behind place r pos in
    elim (cases_lt 0 (place % r)) [
      | inl some ↦ (let i = heads_inside place r pos some in let k = rest (omega (arith, p, some)) in omega (arith, i, k, e))
      | inr none ↦ (
          let i = heads_at_multiple place r pos (omega (arith, none)) in
          let k = head (omega (arith, p, none)) in
          let small : (heads + 1) % 256 ≡ heads + 1 = mod-eq_of_lt (omega (arith, e, i, b, few)) in
          omega (arith, i, k, e, small))
    ]

-- fewer items have no more heads
few_before : (r place : ℕ) → 0 < r → head_count r (place + 1) ≤ 254 → head_count r place ≤ 254
few_before r place pos few =
    let b = heads_behind place r pos in
    elim (cases_lt 0 (place % r)) [
      | inl some ↦ (let i = heads_inside place r pos some in omega (arith, i, b, few))
      | inr none ↦ (let i = heads_at_multiple place r pos (omega (arith, none)) in omega (arith, i, b, few))
    ]

module _ {X : Type 0} (kind : Kind X) (hash : List ℕ → ℕ) (r b : ℕ) (pos : 0 < r) where
  pub tally_none : (body : List ℕ) (tally : TallyState) → tally.table ≡ replicate b 254 → tally.heads ≡ 0
      → ((bytes : List ℕ) → IsHashed hash bytes tally.prefix × IsBegun bytes tally.joined) → HasTallied kind hash r b body tally []
  tally_none body tally table heads keys = λ memory. (
    (keys body).0,
    (keys body).1,
    λ few. record {
      count = ap length table ∙ length-replicate b 254;
      heads_is = heads ∙ sym (div-eq_of_lt (omega arith));
      buckets = λ q h. ap (λ t. get_or t q 0) table ∙ get_or-replicate b q 254 0 h;
    },
  )

  tally_more : (table : List ℕ) (heads : ℕ) (xs : List X) (p : IsTallied kind hash r b table heads xs) (x : X) (phase heads' n : ℕ) (key more : List ℕ)
      → 0 < length table → head_count r (length xs + 1) ≤ 254 → phase ≡ length xs % r → (phase ≡ 0 → heads' ≡ (heads + 1) % 256) → (0 < phase → heads' ≡ heads)
      → (0 < heads' → n + 1 ≡ heads') → kind.key x ≡ key
      → more ≡ set table (hash key % length table) (bucket_byte_with (get_or table (hash key % length table) 0) n) → IsTallied kind hash r b more heads' (xs ++ x ∷ [])
  tally_more table heads xs p x phase heads' n key more some few in_row head rest number key_is more_is =
      let place = length xs in
      let h : heads' ≡ place / r + 1 = heads_next r place heads heads' phase pos p.heads_is few in_row head rest in
      let n_is : n ≡ place / r = let k = number (omega (arith, h)) in omega (arith, k, h) in
      let q = hash (kind.key x) % b in
      let byte = bucket_byte_with (get_or table q 0) (place / r) in
      let count = p.count in
      let same_key : key ≡ kind.key x = sym key_is in
      let inside : q < b = mod_below (hash (kind.key x)) b (omega (arith, some, count)) in
      let there : more ≡ set table q byte =
      more_is ∙ (λ i. set table (hash (same_key i) % p.count i) (bucket_byte_with (get_or table (hash (same_key i) % p.count i) 0) (n_is i))) in
      record {
        count = ap length there ∙ length-set table q byte ∙ p.count;
        heads_is = h ∙ sym (heads_behind place r pos) ∙ ap (head_count r) (sym (length_push xs x));
        buckets = λ j below.
            let push = bucket_push kind hash r b j pos xs x few in
            ap (λ t. get_or t j 0) there ∙ (elim (cases_eq j q) [
              | inl same ↦ (
                  let e : eqb q j ≡ true = eq-eqb _ _ (sym same) in
                  let had : get_or table q 0 ≡ bucket kind hash r xs b j = ap (λ k. get_or table k 0) (sym same) ∙ p.buckets j below in
                  ap (λ k. get_or (set table q byte) k 0) same ∙ get_or-set_same table q byte 0 (omega (arith, inside, count))
                  ∙ ap (λ k. bucket_byte_with k (place / r)) had
                  ∙ ap (λ t. cond t (bucket_byte_with (bucket kind hash r xs b j) (place / r)) (bucket kind hash r xs b j)) (sym e) ∙ sym push)
              | inr other ↦ (
                  let e : eqb q j ≡ false = ne_eqb _ _ (λ k. other (sym k)) in
                  get_or-set_other table q j byte 0 other ∙ p.buckets j below
                  ∙ ap (λ t. cond t (bucket_byte_with (bucket kind hash r xs b j) (place / r)) (bucket kind hash r xs b j)) (sym e) ∙ sym push)
            ]);
      }

  module _ (body : List ℕ) (old new : TallyState) (xs : List X) (x : X) where
    -- a key more, where its memory was allocated
    pub tally_push : (phase n h : ℕ) (key : List ℕ) → HasTallied kind hash r b body old xs → 0 < length old.table → phase ≡ length xs % r → (phase ≡ 0 → new.heads ≡ (old.heads + 1) % 256) → (0 < phase → new.heads ≡ old.heads)
        → (0 < new.heads → n + 1 ≡ new.heads) → kind.key x ≡ key → new.has_memory ≡ old.has_memory
        → (IsHashed hash body new.prefix → IsBegun body old.joined → h ≡ hash key) → (IsHashed hash body old.prefix → IsHashed hash body new.prefix)
        → (IsBegun body old.joined → IsBegun body new.joined)
        → new.table ≡ set old.table (h % length old.table) (bucket_byte_with (get_or old.table (h % length old.table) 0) n) → HasTallied kind hash r b body new (xs ++ x ∷ [])
    tally_push phase n h key taken some in_row head rest number key_is memory_is hash_is prefix_is joined_is table_is = λ memory.
        let before = taken (sym memory_is ∙ memory) in
        let hashed = prefix_is before.0 in (
          hashed,
          joined_is before.1,
          λ many.
              let few : head_count r (length xs + 1) ≤ 254 = subst (λ k. head_count r k ≤ 254) (length_push xs x) many in
              let same = hash_is hashed before.1 in
              tally_more old.table old.heads xs (before.2 (few_before r (length xs) pos few)) x phase new.heads n key new.table some few in_row head rest number key_is
              (table_is ∙ (λ i. set old.table (same i % length old.table) (bucket_byte_with (get_or old.table (same i % length old.table) 0) n))),
        )

module _ {X : Type 0} (kind : Kind X) (hash : List ℕ → ℕ) (t : Trailer) (p : List ℕ) (parts : HasParts t p) (some : 0 < t.hash_len) (forms : HasForms kind t p) (tally : TallyState)
    (taken : HasTallied kind hash t.interval t.hash_len (body_in t p) tally (items_by kind t p)) (memory : tally.has_memory ≡ true) where
  tallied : IsTallied kind hash t.interval t.hash_len tally.table tally.heads (items_by kind t p)
  tallied =
      let l = ap (head_count t.interval) (length-items_at kind t.interval 0 t.item_count [] (body_in t p) (items_by kind t p) [] forms) in
      let f = parts.few_heads some in
      let h = parts.heads in
      (taken memory).2 (omega (arith, l, f, h))

  buckets_length : length (buckets_in t p) ≡ t.hash_len
  buckets_length = let e = parts.end in length-take-le t.hash_len (drop (t.index_offset + t.heads * t.width) p) (omega (arith, e, length-drop (t.index_offset + t.heads * t.width) p))

  pub buckets_to : HasBuckets kind hash t p → tally.table ≡ buckets_in t p
  buckets_to h = sym (each_whole tally.table t.hash_len tallied.count)
      ∙ each_alike (λ q. get_or tally.table q 0) (λ q. get_or (buckets_in t p) q 0) t.hash_len (λ q below. tallied.buckets q below ∙ sym (h q below))
      ∙ each_whole (buckets_in t p) t.hash_len buckets_length

  pub buckets_from : tally.table ≡ buckets_in t p → HasBuckets kind hash t p
  buckets_from e q below = ap (λ xs. get_or xs q 0) (sym e) ∙ tallied.buckets q below
