-- Laws of reading buckets: what a bucket says of the items with a key: where they are, or that there are none.
use Rattle.std.proofs.Common.{◌≡◌, ℕ, ◌+◌, ◌-◌, ◌*◌, ◌/◌, ◌%◌, ◌<◌, ◌≤◌, zero, suc, cond, eqb, Bool, true, false, List, [], ◌∷◌, length, slice_get, slice_index, Some, sym, ap, subst, ◌∙◌, arith, inl, inr}
use Rattle.std.specs.List.{AllByRecursion, list_all}
use Rattle.std.proofs.lemmas.Bool.{cases_Bool, eq-eqb, eqb-true}
use Rattle.std.proofs.lemmas.Nat.{le-div, mod_below, div-add-mod'}
use Rattle.std.proofs.Math.Nat.{div-mul-le_self}
use Rattle.sst_block_core.specs.Kind.{Kind}
use Rattle.sst_block_core.specs.Pointers.{head_count}
use Rattle.sst_block_core.specs.Buckets.{bucket_byte, bucket, buckets}
use Rattle.sst_block_core.specs.BucketLaws.{intervals_from, step}
use Rattle.sst_block_core.specs.PointerLaws.{get_of-each, heads_behind}

all_map : (P Q : ℕ → Type 0) → ((n : ℕ) → P n → Q n) → (ns : List ℕ) → AllByRecursion P ns → AllByRecursion Q ns
all_map P Q f [] all = tt
all_map P Q f (n ∷ ns) all = (f n all.0, all_map P Q f ns all.1)

all_front : (P : ℕ → Type 0) (t : Bool) (n : ℕ) (ns : List ℕ) → AllByRecursion P (cond t (n ∷ ns) ns) → AllByRecursion P ns
all_front P true n ns all = all.1
all_front P false n ns all = all

all_alike : (n : ℕ) (ns : List ℕ) → list_all (λ m. eqb m n) ns ≡ true → AllByRecursion (λ m. m ≡ n) ns
all_alike n [] h = tt
all_alike n (m ∷ ms) h = elim (cases_Bool (eqb m n)) [
  | inl same ↦ (eqb-true m n same, all_alike n ms (rw same at h))
  | inr other ↦ absurd (let k : ◌≡◌ {A = Bool} false true = rw other at h in cc)
]

-- a free bucket has no interval
none_free : (ns : List ℕ) → AllByRecursion (λ n. n ≤ 253) ns → bucket_byte ns ≡ 254 → AllByRecursion (λ n. ⊥) ns
none_free [] small free = tt
none_free (n ∷ ns) small free = absurd (elim (cases_Bool (list_all (λ m. eqb m n) ns)) [
  | inl same ↦ (let k : n ≡ 254 = rw same at free in omega (arith, small.0, k))
  | inr other ↦ (let k : 255 ≡ 254 = rw other at free in omega (arith, k))
])

-- a bucket with a number has intervals, all of that number
one_interval : (ns : List ℕ) (n : ℕ) → bucket_byte ns ≡ n → (n ≡ 254 → ⊥) → (n ≡ 255 → ⊥) → AllByRecursion (λ m. m ≡ n) ns × (0 < length ns)
one_interval [] n is used alone = absurd (used (sym is))
one_interval (m ∷ ms) n is used alone = elim (cases_Bool (list_all (λ k. eqb k m) ms)) [
  | inl same ↦ (
      let e : m ≡ n = rw same at is in
      ((e, all_map (λ k. k ≡ m) (λ k. k ≡ n) (λ k h. h ∙ e) ms (all_alike m ms same)), omega arith))
  | inr other ↦ absurd (let e : 255 ≡ n = rw other at is in alone (sym e))
]

first_of : (P : ℕ → Type 0) (n : ℕ) (ns : List ℕ) → 0 < length ns → AllByRecursion (λ m. m ≡ n) ns → AllByRecursion P ns → P n
first_of P n [] some same all = absurd (omega arith)
first_of P n (m ∷ ms) some same all = subst P same.0 all.0

module _ {X : Type 0} (kind : Kind X) (hash : List ℕ → ℕ) (r b q : ℕ) where
  -- what holds of all intervals of a bucket holds of the interval of each item that falls into it
  holds_at : (P : ℕ → Type 0) (i : ℕ) (xs : List X) (k : ℕ) (x : X) → slice_get xs k ≡ Some x → hash (kind.key x) % b ≡ q → AllByRecursion P (intervals_from kind hash r b q i xs) → P ((i + k) / r)
  holds_at P i [] k x at falls all = absurd cc
  holds_at P i (y ∷ xs) zero x at falls all =
      let same : y ≡ x = cc at in
      let test : eqb (hash (kind.key y) % b) q ≡ true = eq-eqb _ q (ap (λ z. hash (kind.key z) % b) same ∙ falls) in
      let place : i ≡ i + 0 = omega arith in
      let h : AllByRecursion P ((i / r) ∷ intervals_from kind hash r b q (i + 1) xs) = rw (step kind hash r b q i y xs, test) at all in
      subst (λ n. P (n / r)) place h.0
  holds_at P i (y ∷ xs) (suc k) x at falls all =
      let rest = all_front P (eqb (hash (kind.key y) % b) q) (i / r) (intervals_from kind hash r b q (i + 1) xs) (rw step at all) in
      let place : (i + 1) + k ≡ i + suc k = omega arith in
      subst (λ n. P (n / r)) place (holds_at P (i + 1) xs k x at falls rest)

  -- the intervals of a bucket begin within the list
  intervals_below : (i : ℕ) (xs : List X) → AllByRecursion (λ n. n * r < i + length xs) (intervals_from kind hash r b q i xs)
  intervals_below i [] = tt
  intervals_below i (y ∷ xs) =
      let here : i / r * r < i + length (y ∷ xs) = let d = div-mul-le_self i r in omega (arith, d) in
      let e : (i + 1) + length xs ≡ i + length (y ∷ xs) = omega arith in
      let rest = subst (λ m. AllByRecursion (λ n. n * r < m) (intervals_from kind hash r b q (i + 1) xs)) e (intervals_below (i + 1) xs) in
      rw (step kind hash r b q i y xs) (elim (cases_Bool (eqb (hash (kind.key y) % b) q)) [
        | inl falls ↦ rw falls (here, rest)
        | inr other ↦ rw other rest
      ])

module _ {X : Type 0} (kind : Kind X) (hash : List ℕ → ℕ) (r b : ℕ) (items : List X) (needle : List ℕ) (pos : 1 ≤ r) (some : 0 < b) (few : head_count r (length items) ≤ 254) where
  byte_is : slice_index (buckets kind hash r items b) (hash needle % b) ≡ bucket_byte (intervals_from kind hash r b (hash needle % b) 0 items)
  unfolding buckets
  byte_is = get_of-each (bucket kind hash r items b) b (hash needle % b) (mod_below (hash needle) b some)

  intervals_few : AllByRecursion (λ n. n ≤ 253) (intervals_from kind hash r b (hash needle % b) 0 items)
  intervals_few = all_map (λ n. n * r < 0 + length items) (λ n. n ≤ 253) (λ n h.
      (let below = le-div n (length items - 1) r pos (omega (arith, h)) in
      let e : (length items - 1) + 1 ≡ length items = omega (arith, h) in
      let c = heads_behind (length items - 1) r pos in
      let count = ap (head_count r) e in
      omega (arith, below, c, count, few))) (intervals_from kind hash r b (hash needle % b) 0 items) (intervals_below kind hash r b (hash needle % b) 0 items)

  -- a free bucket: no item has the key
  pub free_bucket : slice_index (buckets kind hash r items b) (hash needle % b) ≡ 254 → (i : ℕ) (x : X) → slice_get items i ≡ Some x → kind.key x ≡ needle → ⊥
  free_bucket free i x at same =
      holds_at kind hash r b (hash needle % b) (λ n. ⊥) 0 items i x at (ap (λ key. hash key % b) same)
      (none_free (intervals_from kind hash r b (hash needle % b) 0 items) intervals_few (sym byte_is ∙ free))

  -- a bucket with the number of an interval: each item with the key is in that interval
  pub bucket_interval : (n : ℕ) → slice_index (buckets kind hash r items b) (hash needle % b) ≡ n → (n ≡ 254 → ⊥) → (n ≡ 255 → ⊥)
      → (i : ℕ) (x : X) → slice_get items i ≡ Some x → kind.key x ≡ needle → (i / r ≡ n) × (n * r ≤ i) × (i < (n + 1) * r)
  bucket_interval n is used alone i x at same =
      let one = one_interval (intervals_from kind hash r b (hash needle % b) 0 items) n (sym byte_is ∙ is) used alone in
      let found : (0 + i) / r ≡ n = holds_at kind hash r b (hash needle % b) (λ m. m ≡ n) 0 items i x at (ap (λ key. hash key % b) same) one.0 in
      let z : 0 + i ≡ i = omega arith in
      let e : i / r ≡ n = ap (λ m. m / r) (sym z) ∙ found in
      let d = div-add-mod' i r in
      let m = mod_below i r pos in
      let k : i / r * r ≡ n * r = ap (λ c. c * r) e in
      let row : (n + 1) * r ≡ n * r + r = omega arith in
      (e, omega (arith, d, k), omega (arith, d, m, k, row))

  -- and that interval exists
  pub interval_exists : (n : ℕ) → slice_index (buckets kind hash r items b) (hash needle % b) ≡ n → (n ≡ 254 → ⊥) → (n ≡ 255 → ⊥) → n * r < length items
  interval_exists n is used alone =
      let ns = intervals_from kind hash r b (hash needle % b) 0 items in
      let one = one_interval (intervals_from kind hash r b (hash needle % b) 0 items) n (sym byte_is ∙ is) used alone in
      let below = first_of (λ m. m * r < 0 + length items) n ns one.1 one.0 (intervals_below kind hash r b (hash needle % b) 0 items) in
      omega (arith, below)
