-- The buckets of an encoder: what one item more does to them all.
use Rattle.std.proofs.Common.{◌≡◌, ℕ, ◌+◌, ◌-◌, ◌*◌, ◌/◌, ◌%◌, ◌<◌, ◌≤◌, zero, suc, cond, eqb, leb, Bool, true, false, List, [], ◌∷◌, ◌++◌, length, get_or, replicate, refl, sym, ap, ◌∙◌, arith, inl, inr}
use Rattle.std.proofs.Math.ListN.{set}
use Rattle.std.proofs.lemmas.Bool.{cases_lt, cases_eq, cases_Bool, ne_eqb, eq-eqb, leb-true, le-leb}
use Rattle.std.proofs.lemmas.List.{length_push}
use Rattle.std.proofs.lemmas.Nat.{mod_below, div-add-mod'}
use Rattle.std.proofs.Math.Nat.{zero-div, zero-mod}
use Rattle.sst_block_core.specs.Kind.{Kind}
use Rattle.sst_block_core.specs.Pointers.{each, head_count}
use Rattle.sst_block_core.specs.Buckets.{bucket, bucket_byte_with, buckets, stored_count, begun, noted, added, AreFew}
use Rattle.sst_block_core.specs.Encoders.{made_count}
use Rattle.sst_block_core.specs.BucketLaws.{bucket_push}
use Rattle.sst_block_core.specs.PointerLaws.{length-each, get_of-each, heads_behind, heads_at_multiple, heads_inside, heads_one}

each_later : (f g : ℕ → ℕ) (i n : ℕ) → ((q : ℕ) → i ≤ q → g q ≡ f q) → each g i n ≡ each f i n
each_later f g i zero h = refl
each_later f g i (suc n) h = let a = h i (omega arith) in let b = each_later f g (i + 1) n (λ q p. h q (omega arith)) in cc

-- one number changed
each_set : (f g : ℕ → ℕ) (i n q v : ℕ) → q < n → g (i + q) ≡ v → ((k : ℕ) → (k ≡ i + q → ⊥) → g k ≡ f k) → each g i n ≡ set (each f i n) q v
each_set f g i zero q v h new others = absurd (omega arith)
each_set f g i (suc n) zero v h new others =
    let e : i ≡ i + 0 = omega arith in
    let here : g i ≡ v = ap g e ∙ new in
    let rest = each_later f g (i + 1) n (λ k p. others k (λ s. omega (arith, s, p))) in
    λ k. here k ∷ rest k
each_set f g i (suc n) (suc q) v h new others =
    let e : (i + 1) + q ≡ i + suc q = omega arith in
    let here : g i ≡ f i = others i (λ s. omega (arith, s)) in
    let rest = each_set f g (i + 1) n q v (omega arith) (ap g e ∙ new) (λ k p. others k (λ s. p (s ∙ sym e))) in
    λ k. here k ∷ rest k

all_alike : (v n i : ℕ) → each (λ q. v) i n ≡ replicate n v
all_alike v zero i = refl
all_alike v (suc n) i = ap (λ xs. v ∷ xs) (all_alike v n (i + 1))

not_few : (c : ℕ) → 254 < c → leb c 254 ≡ false
not_few c h = elim (cases_Bool (leb c 254)) [
  | inl few ↦ absurd (let k = leb-true c 254 few in omega (arith, h, k))
  | inr many ↦ many
]

-- one head more is few as well, but for the 255th
still_few : (c : ℕ) → (c + 1 ≡ 255 → ⊥) → leb c 254 ≡ leb (c + 1) 254
still_few c h = elim (cases_lt c 254) [
  | inl few ↦ le-leb c 254 (omega (arith, few)) ∙ sym (le-leb (c + 1) 254 (omega (arith, few)))
  | inr many ↦ (let k : 254 < c = omega (arith, h, many) in not_few c k ∙ sym (not_few (c + 1) (omega (arith, k))))
]

module _ {X : Type 0} (kind : Kind X) (hash : List ℕ → ℕ) (r : ℕ) (pos : 1 ≤ r) where
  -- one key more in the interval of its index
  buckets_push : (xs : List X) (x : X) (b heads : ℕ) → 0 < b → heads - 1 ≡ length xs / r → head_count r (length xs + 1) ≤ 254
      → noted hash (kind.key x) heads (buckets kind hash r xs b) ≡ buckets kind hash r (xs ++ x ∷ []) b
  unfolding buckets
  buckets_push xs x b heads some last few =
      let f = bucket kind hash r xs b in
      let g = bucket kind hash r (xs ++ x ∷ []) b in
      let q = hash (kind.key x) % b in
      let inside : q < b = mod_below (hash (kind.key x)) b some in
      let m = length xs / r in
      let l = length-each f 0 b in
      let push = λ (k : ℕ). bucket_push kind hash r b k pos xs x few in
      let here : g (0 + q) ≡ bucket_byte_with (f q) m = ap g (omega arith) ∙ push q ∙ ap (λ t. cond t (bucket_byte_with (f q) m) (f q)) (eq-eqb q q refl) in
      let others : (k : ℕ) → (k ≡ 0 + q → ⊥) → g k ≡ f k = λ k ne. push k ∙ ap (λ t. cond t (bucket_byte_with (f k) m) (f k)) (ne_eqb q k (λ s. ne (omega (arith, s)))) in
      let byte : bucket_byte_with (get_or (each f 0 b) q 0) (heads - 1) ≡ bucket_byte_with (f q) m = λ k. bucket_byte_with (get_of-each f b q inside k) (last k) in
      rw (l, ne_eqb b 0 (λ z. omega (arith, some, z))) (ap (set (each f 0 b) q) byte ∙ sym (each_set f g 0 b q (bucket_byte_with (f q) m) inside here others))

  none_noted : (xs ys : List X) (key : List ℕ) (heads n : ℕ) → n ≡ 0 → noted hash key heads (buckets kind hash r xs n) ≡ buckets kind hash r ys n
  unfolding buckets
  none_noted xs ys key heads n none = rw none refl

  -- where as many are stored as for one item more
  stored_push : (xs : List X) (x : X) (b heads : ℕ) → heads - 1 ≡ length xs / r
      → noted hash (kind.key x) heads (buckets kind hash r xs (stored_count r (length xs + 1) b)) ≡ buckets kind hash r (xs ++ x ∷ []) (stored_count r (length xs + 1) b)
  stored_push xs x b heads last = elim (cases_Bool (leb (head_count r (length xs + 1)) 254)) [
    | inl few ↦ elim (cases_lt 0 b) [
      | inl some ↦ rw few (buckets_push xs x b heads some last (leb-true (head_count r (length xs + 1)) 254 few))
      | inr none ↦ rw few (none_noted xs (xs ++ x ∷ []) (kind.key x) heads b (omega arith))
    ]
    | inr many ↦ rw many (none_noted xs (xs ++ x ∷ []) (kind.key x) heads 0 refl)
  ]

  first_buckets : (xs : List X) (b : ℕ) → length xs ≡ 0 → replicate b 254 ≡ buckets kind hash r xs b
  unfolding buckets
  first_buckets [] b none = sym (all_alike 254 b 0)
  first_buckets (x ∷ xs) b none = absurd (omega arith)

  pub no_buckets : (xs : List X) (n : ℕ) → n ≡ 0 → [] ≡ buckets kind hash r xs n
  unfolding buckets
  no_buckets xs n none = rw none refl

  nothing_before : (n : ℕ) → n % r ≡ 0 → n / r ≡ 0 → n ≡ 0
  nothing_before n z none = let d = div-add-mod' n r in let k = ap (λ m. m * r) none in omega (arith, d, z, k)

  -- where a head follows
  begun_stored : (xs : List X) (b heads : ℕ) (table : List ℕ) → length xs % r ≡ 0 → heads ≡ length xs / r + 1 → table ≡ buckets kind hash r xs (made_count r (length xs) b)
      → begun heads b table ≡ buckets kind hash r xs (stored_count r (length xs + 1) b)
  begun_stored xs b heads table z is tabled =
      let n = length xs in
      let behind : head_count r (n + 1) ≡ n / r + 1 = heads_behind n r pos in
      let before : head_count r n ≡ n / r = heads_at_multiple n r pos z in
      elim (cases_eq heads 1) [
        | inl one ↦ (
            let none : n ≡ 0 = nothing_before n z (omega (arith, is, one)) in
            let few : leb (head_count r (n + 1)) 254 ≡ true = le-leb (head_count r (n + 1)) 254 (omega (arith, behind, is, one)) in
            rw (eq-eqb heads 1 one, few) (first_buckets xs b none))
        | inr more ↦ elim (cases_eq heads 255) [
          | inl last ↦ (
              let many = not_few (head_count r (n + 1)) (omega (arith, behind, is, last)) in
              rw (ne_eqb heads 1 more, eq-eqb heads 255 last, many) (no_buckets xs 0 refl))
          | inr other ↦ (
              let some : (n ≡ 0 → ⊥) = λ e. more (let d = ap (λ k. k / r) e in let k : 0 / r ≡ 0 = zero-div r in omega (arith, is, d, k)) in
              let same : leb (head_count r n) 254 ≡ leb (head_count r (n + 1)) 254 =
              ap (λ c. leb c 254) before ∙ still_few (n / r) (λ e. other (omega (arith, is, e))) ∙ ap (λ c. leb c 254) (sym behind) in
              let count : made_count r n b ≡ stored_count r (n + 1) b = ap (λ t. cond t 0 (stored_count r n b)) (ne_eqb n 0 some) ∙ ap (λ t. cond t b 0) same in
              rw (ne_eqb heads 1 more, ne_eqb heads 255 other) (tabled ∙ ap (buckets kind hash r xs) count))
        ]
      ]

  -- where an interval continues
  rest_stored : (xs : List X) (b : ℕ) → 0 < length xs % r → made_count r (length xs) b ≡ stored_count r (length xs + 1) b
  rest_stored xs b some =
      let n = length xs in
      let same : head_count r n ≡ head_count r (n + 1) = heads_inside n r pos some ∙ sym (heads_behind n r pos) in
      let not_none : (n ≡ 0 → ⊥) = λ e. (let d = ap (λ k. k % r) e in let k : 0 % r ≡ 0 = zero-mod r in omega (arith, d, k, some)) in
      ap (λ t. cond t 0 (stored_count r n b)) (ne_eqb n 0 not_none) ∙ ap (λ c. cond (leb c 254) b 0) same

  made_push : (xs : List X) (x : X) (b : ℕ) → stored_count r (length xs + 1) b ≡ made_count r (length (xs ++ x ∷ [])) b
  made_push xs x b =
      let l = length_push xs x in
      ap (λ n. stored_count r n b) (sym l) ∙ sym (ap (λ t. cond t 0 (stored_count r (length (xs ++ x ∷ [])) b)) (ne_eqb (length (xs ++ x ∷ [])) 0 (λ z. omega (arith, l, z))))

  -- the buckets of one item more
  pub table_push : (xs : List X) (x : X) (b heads : ℕ) (t : Bool) (key table : List ℕ) → t ≡ eqb (length xs % r) 0 → key ≡ kind.key x → heads ≡ head_count r (length xs)
      → table ≡ buckets kind hash r xs (made_count r (length xs) b) → added hash key t heads b table ≡ buckets kind hash r (xs ++ x ∷ []) (made_count r (length (xs ++ x ∷ [])) b)
  table_push xs x b heads t key table test is count tabled =
      let n = length xs in
      let to_made = ap (buckets kind hash r (xs ++ x ∷ [])) (made_push xs x b) in
      elim (cases_lt 0 (n % r)) [
        | inl some ↦ (
            let no : t ≡ false = test ∙ ne_eqb (n % r) 0 (λ q. omega (arith, q, some)) in
            let inside = heads_inside n r pos some in
            let same : table ≡ buckets kind hash r xs (stored_count r (n + 1) b) = tabled ∙ ap (buckets kind hash r xs) (rest_stored xs b some) in
            rw (no, is, same) (stored_push xs x b heads (omega (arith, count, inside)) ∙ to_made))
        | inr none ↦ (
            let z : n % r ≡ 0 = omega arith in
            let yes : t ≡ true = test ∙ eq-eqb (n % r) 0 z in
            let before = heads_at_multiple n r pos z in
            let same = begun_stored xs b (heads + 1) table z (omega (arith, count, before)) tabled in
            rw (yes, is) (ap (noted hash (kind.key x) (heads + 1)) same ∙ stored_push xs x b (heads + 1) (omega (arith, count, before)) ∙ to_made))
      ]

  length-buckets : (xs : List X) (n : ℕ) → length (buckets kind hash r xs n) ≡ n
  unfolding buckets
  length-buckets xs n = length-each (bucket kind hash r xs n) 0 n

  few_made : (n b : ℕ) → 0 < made_count r n b → (1 ≤ n) × (head_count r n ≤ 254)
  few_made n b some = elim (cases_eq n 0) [
    | inl none ↦ absurd (let k : 0 < 0 = rw (eq-eqb n 0 none) at some in omega (arith, k))
    | inr more ↦ elim (cases_Bool (leb (head_count r n) 254)) [
      | inl few ↦ (omega (arith, more), leb-true (head_count r n) 254 few)
      | inr many ↦ absurd (let k : 0 < 0 = rw (ne_eqb n 0 more, many) at some in omega (arith, k))
    ]
  ]

  -- where there are buckets, heads are few
  pub heads_few : (xs : List X) (b heads : ℕ) (table : List ℕ) → heads ≡ head_count r (length xs) → table ≡ buckets kind hash r xs (made_count r (length xs) b) → AreFew heads table
  heads_few xs b heads table count tabled = λ some.
      (let l = ap length tabled ∙ length-buckets xs (made_count r (length xs) b) in
      let few = few_made (length xs) b (omega (arith, some, l)) in
      let one = heads_one (length xs) r pos few.0 in
      (omega (arith, count, one), omega (arith, count, few.1)))
