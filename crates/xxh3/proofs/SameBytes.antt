-- Words, stripes and sums of the same bytes.
use Rattle.std.proofs.Common.{◌≡◌, ℕ, zero, suc, ◌+◌, ◌*◌, ◌%◌, ◌<◌, ◌≤◌, List, [], ◌∷◌, drop, map, get_or, bit_xor, refl, sym, ap, ◌∙◌, arith}
use Rattle.std.proofs.lemmas.List.{get_or-drop}
use lib.Lanes.{zip2}
use Rattle.byteorder.specs.Endian.{little_from}
use Rattle.xxh3.specs.Pieces.{IsSame}
use Rattle.xxh3.specs.Xxh3.{add, word, words, swapped, halves_product, with_stripe, with_stripes, first_sums}
use Rattle.xxh3.proofs.Steps.{closed}

little_from-same : (s n : ℕ) (xs ys : List ℕ) → ((k : ℕ) → k < n → get_or xs (s + k) 0 ≡ get_or ys (s + k) 0) → little_from s n xs ≡ little_from s n ys
little_from-same s zero xs ys h = refl
little_from-same s (suc n) xs ys h =
    let at_s : s + 0 ≡ s = omega arith in
    let first : get_or xs s 0 ≡ get_or ys s 0 = rw at_s at (h 0 (omega arith)) in
    let rest = little_from-same (suc s) n xs ys (λ k l. let e : s + suc k ≡ suc s + k = omega arith in rw e at (h (suc k) (omega arith))) in
    λ i. first i + 256 * rest i

-- m bytes of n that are the same, from the a-th on
pub part-same : (xs : List ℕ) (i : ℕ) (ys : List ℕ) (j n : ℕ) → IsSame xs i ys j n → (a m : ℕ) → a + m ≤ n → IsSame xs (i + a) ys (j + a) m
part-same xs i ys j n s a m fits = record {
  each = λ k l.
      let p : i + a + k ≡ i + (a + k) = omega arith in
      let q : j + a + k ≡ j + (a + k) = omega arith in
      rw (p, q) (s.each (a + k) (omega arith));
}

pub front-same : (xs : List ℕ) (i : ℕ) (ys : List ℕ) (j n : ℕ) → IsSame xs i ys j n → (m : ℕ) → m ≤ n → IsSame xs i ys j m
front-same xs i ys j n s m fits = record { each = λ k l. s.each k (omega arith) }

word-same : (xs : List ℕ) (i : ℕ) (ys : List ℕ) (j : ℕ) → IsSame xs i ys j 8 → word xs i ≡ word ys j
unfolding word
word-same xs i ys j s =
    little_from-same 0 8 (drop i xs) (drop j ys)
    (λ k l. let z : 0 + k ≡ k = omega arith in rw z (get_or-drop i xs k 0 ∙ s.each k l ∙ sym (get_or-drop j ys k 0)))

words-same : (xs : List ℕ) (i : ℕ) (ys : List ℕ) (j : ℕ) → IsSame xs i ys j 64 → words xs i ≡ words ys j
unfolding words
words-same xs i ys j s =
    let at_place = λ (a : ℕ) (l : a + 8 ≤ 64). word-same xs (i + a) ys (j + a) (part-same xs i ys j 64 s a 8 l) in
    λ z.
    word-same xs i ys j (front-same xs i ys j 64 s 8 (omega arith)) z ∷ at_place 8 (omega arith) z ∷ at_place 16 (omega arith) z ∷ at_place 24 (omega arith) z
    ∷ at_place 32 (omega arith) z ∷ at_place 40 (omega arith) z ∷ at_place 48 (omega arith) z ∷ at_place 56 (omega arith) z ∷ []

pub with_stripe-same : (secret sums xs : List ℕ) (i : ℕ) (ys : List ℕ) (j k : ℕ) → IsSame xs i ys j 64
    → with_stripe secret sums xs i k ≡ with_stripe secret sums ys j k
unfolding with_stripe
with_stripe-same secret sums xs i ys j k s =
    ap (λ (w : List ℕ). zip2 add (zip2 add sums (swapped w)) (map halves_product (zip2 bit_xor w (words secret k)))) (words-same xs i ys j s)

pub with_stripes-same : (secret sums xs : List ℕ) (i : ℕ) (ys : List ℕ) (j t n : ℕ) → IsSame xs i ys j (64 * n)
    → with_stripes secret sums xs i t n ≡ with_stripes secret sums ys j t n
unfolding with_stripes
with_stripes-same secret sums xs i ys j t zero s = refl
with_stripes-same secret sums xs i ys j t (suc n) s =
    let before = with_stripes-same secret sums xs i ys j t n (front-same xs i ys j (64 * suc n) s (64 * n) (omega arith)) in
    let last =
    with_stripe-same secret (with_stripes secret sums xs i t n) xs (i + 64 * n) ys (j + 64 * n) (8 * ((t + n) % 16))
    (part-same xs i ys j (64 * suc n) s (64 * n) 64 (omega arith)) in
    ap (λ (w : List ℕ). closed secret w (t + n)) (last ∙ ap (λ (w : List ℕ). with_stripe secret w ys (j + 64 * n) (8 * ((t + n) % 16))) before)

-- stripes after stripes
pub with_stripes-more : (secret sums bytes : List ℕ) (i t n k : ℕ)
    → with_stripes secret (with_stripes secret sums bytes i t n) bytes (i + 64 * n) ((t + n) % 16) k ≡ with_stripes secret sums bytes i t (n + k)
unfolding with_stripes
with_stripes-more secret sums bytes i t n zero = let e : n ≡ n + 0 = omega arith in ap (with_stripes secret sums bytes i t) e
with_stripes-more secret sums bytes i t n (suc k) =
    let before = with_stripes-more secret sums bytes i t n k in
    let e : suc (n + k) ≡ n + suc k = omega arith in
    let place : ((t + n) % 16 + k) % 16 ≡ (t + (n + k)) % 16 = omega arith in
    let at_byte : i + 64 * n + 64 * k ≡ i + 64 * (n + k) = omega arith in
    let step : with_stripes secret (with_stripes secret sums bytes i t n) bytes (i + 64 * n) ((t + n) % 16) (suc k) ≡ with_stripes secret sums bytes i t (suc (n + k)) =
    rw (place, at_byte, before) refl in
    step ∙ ap (with_stripes secret sums bytes i t) e

-- the same of sums that were found one after the other, of m stripes in all
pub stripes_joined : (secret start bytes : List ℕ) (i t n j u k m : ℕ) (sums result : List ℕ) → sums ≡ with_stripes secret start bytes i t n
    → result ≡ with_stripes secret sums bytes j u k → j ≡ i + 64 * n → u ≡ (t + n) % 16 → m ≡ n + k → result ≡ with_stripes secret start bytes i t m
stripes_joined secret start bytes i t n j u k m sums result e f at_byte place all =
    f ∙ (λ z. with_stripes secret (e z) bytes (at_byte z) (place z) k) ∙ with_stripes-more secret start bytes i t n k ∙ sym (ap (with_stripes secret start bytes i t) all)

-- the sums of a message with k stripes more, which stand in xs
pub message-more : (secret message xs : List ℕ) (n k i place : ℕ) (sums result : List ℕ) → sums ≡ with_stripes secret first_sums message 0 0 n → place ≡ n % 16
    → IsSame xs i message (64 * n) (64 * k) → result ≡ with_stripes secret sums xs i place k → result ≡ with_stripes secret first_sums message 0 0 (n + k)
message-more secret message xs n k i place sums result p q s e =
    let z : 0 + 64 * n ≡ 64 * n = omega arith in
    let w : 0 + n ≡ n = omega arith in
    let more = rw (z, w) at (with_stripes-more secret first_sums message 0 0 n k) in
    e ∙ with_stripes-same secret sums xs i message (64 * n) place k s ∙ (rw (p, q) more)
