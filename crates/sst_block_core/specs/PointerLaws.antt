-- Laws of pointers and buckets: tables of numbers, and how many heads there are.
use Rattle.std.proofs.Common.{◌≡◌, ℕ, ◌+◌, zero, suc, [], ◌∷◌, ◌++◌, ap, ◌∙◌, arith, ◌*◌, ◌<◌, ◌^◌, List, length, take, drop, get_or, refl, sym, length-append, ◌-◌, ◌/◌, ◌%◌, ◌≤◌, inl, inr}
use Rattle.sst_block_core.specs.Pointers.{each, head_count, head_offsets, last_pointer}
use Rattle.std.specs.List.{flat_map}
use Rattle.std.proofs.lemmas.List.{take-append-drop, drop_at, drop-drop, drop_all, drop_more}
use Rattle.byteorder.specs.Endian.{little_bytes, little_number}
use Rattle.sst_base.specs.Bytes.{IsBytes}
use Rattle.byteorder.specs.Numbers.{length-bytes_low_first, little_number-reads_back}
use Rattle.sst_base.specs.BytesLaws.{little_bytes-little_number_at}
use Rattle.sst_block_core.specs.Kind.{Kind}
use Rattle.sst_block_core.specs.Body.{place_offset}
use Rattle.std.proofs.lemmas.Bool.{cases_lt}
use Rattle.std.proofs.lemmas.Nat.{mul-le, div-mul-add, div-add-mod', mod_below}
use Rattle.std.proofs.Math.Nat.{div-eq_of_lt, add-div_right}

-- one element more
pub each_push : {X : Type 0} (f : ℕ → X) (i n : ℕ) → each f i (suc n) ≡ each f i n ++ f (i + n) ∷ []
each_push f i zero = ap (λ k. f k ∷ []) (omega arith)
each_push f i (suc n) = ap (λ xs. f i ∷ xs) (each_push f (i + 1) n ∙ ap (λ k. each f (i + 1) n ++ f k ∷ []) (omega arith))

-- as many numbers as are requested
pub length-each : {X : Type 0} (f : ℕ → X) (i n : ℕ) → length (each f i n) ≡ n
length-each f i zero = refl
length-each f i (suc n) = ap suc (length-each f (i + 1) n)

-- functions that agree list the same
pub each_same : {X : Type 0} (f g : ℕ → X) (i n : ℕ) → ((j : ℕ) → j < i + n → f j ≡ g j) → each f i n ≡ each g i n
each_same f g i zero h = refl
each_same f g i (suc n) h = let a = h i (omega arith) in let b = each_same f g (i + 1) n (λ j p. h j (omega arith)) in cc

-- the element at an index of a list of a function's values
pub get_or-each : (f : ℕ → ℕ) (i n q d : ℕ) → q < n → get_or (each f i n) q d ≡ f (i + q)
get_or-each f i zero q d h = absurd (omega arith)
get_or-each f i (suc n) zero d h = ap f (omega arith)
get_or-each f i (suc n) (suc q) d h = get_or-each f (i + 1) n q d (omega arith) ∙ ap f (omega arith)

-- the elements of a list from an index on, by their indices
pub each_get : (xs : List ℕ) (i n : ℕ) → length xs ≡ i + n → each (λ q. get_or xs q 0) i n ≡ drop i xs
each_get xs i zero h = sym (drop_all i xs (omega arith))
each_get xs i (suc n) h = ap (λ ys. get_or xs i 0 ∷ ys) (each_get xs (i + 1) n (omega arith)) ∙ sym (drop_more xs i 0 (omega arith))

one_row : (i w : ℕ) → (i + 1) * w ≡ i * w + w
one_row i w = omega arith

-- bytes in rows of w are the encodings of the numbers of the rows
pub rows_are : (w : ℕ) (xs : List ℕ) (i n : ℕ) → IsBytes xs → length xs ≡ (i + n) * w → flat_map (little_bytes w) (each (λ j. little_number w (drop (j * w) xs)) i n) ≡ drop (i * w) xs
rows_are w xs i zero b h = sym (drop_all (i * w) xs (let e : i + 0 ≡ i = omega arith in let k = ap (λ m. m * w) e in omega (arith, h, k)))
rows_are w xs i (suc n) b h =
    let row = one_row i w in
    let same : (i + suc n) * w ≡ (i * w + w) + n * w = omega arith in
    let again : length xs ≡ ((i + 1) + n) * w = let k : (i + 1) + n ≡ i + suc n = omega arith in h ∙ ap (λ m. m * w) (sym k) in
    let here = little_bytes-little_number_at (i * w) w xs b (omega (arith, same, h)) in
    let rest = rows_are w xs (i + 1) n b again in
    (λ k. here k ++ rest k) ∙ ap (λ m. take w (drop (i * w) xs) ++ drop m xs) row
    ∙ ap (λ ys. take w (drop (i * w) xs) ++ ys) (sym (drop-drop w (i * w) xs)) ∙ take-append-drop w (drop (i * w) xs)

-- how long rows are
pub length-rows : (w : ℕ) (f : ℕ → ℕ) (i n : ℕ) → length (flat_map (little_bytes w) (each f i n)) ≡ n * w
length-rows w f i zero = omega arith
length-rows w f i (suc n) =
    let rest = length-rows w f (i + 1) n in
    let l = length-append (little_bytes w (f i)) (flat_map (little_bytes w) (each f (i + 1) n)) in
    let k = length-bytes_low_first 0 w (f i) in
    let row : suc n * w ≡ w + n * w = omega arith in
    omega (arith, rest, l, k, row)

-- a row of a table of numbers
pub row_at : (w : ℕ) (f : ℕ → ℕ) (i n j : ℕ) → j < n → ((k : ℕ) → k < i + n → f k < 256 ^ w) → little_number w (drop (j * w) (flat_map (little_bytes w) (each f i n))) ≡ f (i + j)
row_at w f i zero j h small = absurd (omega arith)
row_at w f i (suc n) zero h small =
    let rest = flat_map (little_bytes w) (each f (i + 1) n) in
    let z : zero * w ≡ 0 = omega arith in
    let same : i + 0 ≡ i = omega arith in
    ap (λ m. little_number w (drop m (little_bytes w (f i) ++ rest))) z
    ∙ little_number-reads_back w (f i) rest (small i (omega arith)) ∙ ap f (sym same)
row_at w f i (suc n) (suc j) h small =
    let rest = flat_map (little_bytes w) (each f (i + 1) n) in
    let row : suc j * w ≡ w + j * w = omega arith in
    let again = row_at w f (i + 1) n j (omega arith) (λ k p. small k (omega arith)) in
    ap (λ m. little_number w (drop m (little_bytes w (f i) ++ rest))) row
    ∙ ap (little_number w) (sym (drop-drop (j * w) w (little_bytes w (f i) ++ rest)))
    ∙ ap (λ ys. little_number w (drop (j * w) ys)) (drop_at (little_bytes w (f i)) rest w (length-bytes_low_first 0 w (f i)))
    ∙ again ∙ ap f (omega arith)

-- the same from index 0 on
pub rows_whole : (w : ℕ) (xs : List ℕ) (n : ℕ) → IsBytes xs → length xs ≡ n * w → flat_map (little_bytes w) (each (λ j. little_number w (drop (j * w) xs)) 0 n) ≡ xs
rows_whole w xs n b h =
    let e : 0 + n ≡ n = omega arith in
    let z : 0 * w ≡ 0 = omega arith in
    rows_are w xs 0 n b (h ∙ ap (λ m. m * w) (sym e)) ∙ ap (λ k. drop k xs) z

-- a row of a table from index 0 on
pub row_of : (w : ℕ) (f : ℕ → ℕ) (n j : ℕ) → j < n → ((k : ℕ) → k < n → f k < 256 ^ w) → little_number w (drop (j * w) (flat_map (little_bytes w) (each f 0 n))) ≡ f j
row_of w f n j h small = row_at w f 0 n j h (λ k p. small k (omega arith)) ∙ ap f (omega arith)

-- functions that agree list the same from 0 on
pub each_alike : {X : Type 0} (f g : ℕ → X) (n : ℕ) → ((j : ℕ) → j < n → f j ≡ g j) → each f 0 n ≡ each g 0 n
each_alike f g n h = each_same f g 0 n (λ j p. h j (omega arith))

-- a list is the list of its elements by their indices
pub each_whole : (xs : List ℕ) (n : ℕ) → length xs ≡ n → each (λ q. get_or xs q 0) 0 n ≡ xs
each_whole xs n h = each_get xs 0 n (omega arith)

-- the element at an index of a list of a function's values from 0 on
pub get_of-each : (f : ℕ → ℕ) (n q : ℕ) → q < n → get_or (each f 0 n) q 0 ≡ f q
get_of-each f n q h = get_or-each f 0 n q 0 h ∙ ap f (omega arith)

-- no items have no heads
pub no_heads : (r : ℕ) → 1 ≤ r → head_count r 0 ≡ 0
no_heads r pos = div-eq_of_lt (omega arith)

-- the number of heads of one item more: the intervals before it, and its own
pub heads_behind : (n r : ℕ) → 1 ≤ r → head_count r (n + 1) ≡ n / r + 1
heads_behind n r pos = let e : (n + 1) + (r - 1) ≡ n + r = omega arith in ap (λ k. k / r) e ∙ add-div_right n pos

-- at a multiple of the interval there are as many heads as intervals
pub heads_at_multiple : (n r : ℕ) → 1 ≤ r → n % r ≡ 0 → head_count r n ≡ n / r
heads_at_multiple n r pos z =
    let d = div-add-mod' n r in
    let e : n + (r - 1) ≡ n / r * r + (r - 1) = omega arith in
    ap (λ k. k / r) e ∙ div-mul-add (n / r) r (r - 1) (omega arith)

-- within an interval its own head is one more
pub heads_inside : (n r : ℕ) → 1 ≤ r → 0 < n % r → head_count r n ≡ n / r + 1
heads_inside n r pos some =
    let d = div-add-mod' n r in
    let b = mod_below n r pos in
    let row : (n / r + 1) * r ≡ n / r * r + r = omega arith in
    let e : n + (r - 1) ≡ (n / r + 1) * r + (n % r - 1) = omega arith in
    ap (λ k. k / r) e ∙ div-mul-add (n / r + 1) r (n % r - 1) (omega arith)

-- there are no more heads than items
pub heads_le : (n r : ℕ) → 1 ≤ r → head_count r n ≤ n
heads_le n r pos =
    let d = div-add-mod' n r in
    let k : n / r * 1 ≤ n / r * r = mul-le (n / r) 1 (n / r) r (omega arith) pos in
    elim (cases_lt 0 (n % r)) [
      | inl some ↦ (let e = heads_inside n r pos some in omega (arith, e, d, k, some))
      | inr none ↦ (let e = heads_at_multiple n r pos (omega arith) in omega (arith, e, d, k))
    ]

-- and at least one where there is an item
pub heads_one : (n r : ℕ) → 1 ≤ r → 1 ≤ n → 1 ≤ head_count r n
heads_one n r pos some = let e = heads_behind (n - 1) r pos in let f : (n - 1) + 1 ≡ n = omega arith in let g = ap (head_count r) f in omega (arith, e, g)

-- the last pointer is the offset of the last head
pub last_offset : {X : Type 0} (kind : Kind X) (r : ℕ) (items : List X) → 0 < head_count r (length items) → last_pointer (head_offsets kind r items) ≡ place_offset kind r items ((head_count r (length items) - 1) * r)
last_offset kind r items some =
    let c = head_count r (length items) in
    let f = λ (j : ℕ). place_offset kind r items (j * r) in
    ap (λ n. get_or (each f 0 c) (n - 1) 0) (length-each f 0 c) ∙ get_of-each f c (c - 1) (omega arith)
