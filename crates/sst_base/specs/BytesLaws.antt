-- Laws of byte strings and of the fixed-width numbers in them.
use Rattle.std.proofs.Common.{◌≡◌, ℕ, ◌+◌, ◌-◌, ◌*◌, ◌/◌, ◌%◌, ◌≤◌, ◌^◌, zero, suc, List, [], ◌∷◌, ◌++◌, length, take, drop, refl, arith, sym, ◌∙◌, ap, subst, length-drop}
use Rattle.std.proofs.Math.Nat.{pow-succ', div-div-eq-div-mul}
use Rattle.std.proofs.lemmas.List.{take-append-drop, drop-drop, drop_at, length-take-le}
use Rattle.std.specs.Int.{bytes_low_first, byte_at}
use Rattle.byteorder.specs.Endian.{little_bytes, little_number}
use Rattle.byteorder.specs.Numbers.{little_from-cons, little_from-append}
use Rattle.sst_base.specs.Bytes.{IsBytes}

-- the cells of a prefix of bytes are bytes
pub IsBytes-front : (xs ys : List ℕ) → IsBytes (xs ++ ys) → IsBytes xs
IsBytes-front [] ys h i = omega arith
IsBytes-front (x ∷ xs) ys h zero = h 0
IsBytes-front (x ∷ xs) ys h (suc i) = IsBytes-front xs ys (λ j. h (suc j)) i

-- and so are the cells of the rest
pub IsBytes-back : (xs ys : List ℕ) → IsBytes (xs ++ ys) → IsBytes ys
IsBytes-back [] ys h = h
IsBytes-back (x ∷ xs) ys h = IsBytes-back xs ys (λ j. h (suc j))

-- the cells of the first n bytes are bytes
pub IsBytes-take : (n : ℕ) (xs : List ℕ) → IsBytes xs → IsBytes (take n xs)
IsBytes-take n xs b = IsBytes-front (take n xs) (drop n xs) (subst IsBytes (sym (take-append-drop n xs)) b)

-- and so are the cells after them
pub IsBytes-drop : (n : ℕ) (xs : List ℕ) → IsBytes xs → IsBytes (drop n xs)
IsBytes-drop n xs b = IsBytes-back (take n xs) (drop n xs) (subst IsBytes (sym (take-append-drop n xs)) b)

-- a piece of bytes and what follows it
pub take-drop-more : (at width : ℕ) (xs : List ℕ) → take width (drop at xs) ++ drop (at + width) xs ≡ drop at xs
take-drop-more at width xs = ap (λ ys. take width (drop at xs) ++ ys) (sym (drop-drop width at xs)) ∙ take-append-drop width (drop at xs)

-- the length of a part
pub length_part : (xs : List ℕ) (start end : ℕ) → end ≤ length xs → length (take (end - start) (drop start xs)) ≡ end - start
length_part xs start end h = length-take-le (end - start) (drop start xs) (omega (arith, length-drop start xs))

-- a byte of a number, by its power
byte_at-div : (i n : ℕ) → byte_at i n ≡ (n / 256 ^ i) % 256
byte_at-div zero n = omega arith
byte_at-div (suc i) n = refl

-- the byte above another is that byte of the number without its lowest byte
byte_at-suc : (i n : ℕ) → byte_at (suc i) n ≡ byte_at i (n / 256)
byte_at-suc i n =
    ap (λ k. k % 256) (ap (λ p. n / p) (pow-succ' 256 i) ∙ sym (div-div-eq-div-mul n 256 (256 ^ i)))
    ∙ sym (byte_at-div i (n / 256))

-- the bytes above another are those of the number without its lowest byte
bytes_low_first-suc : (width i n : ℕ) → bytes_low_first (suc i) width n ≡ bytes_low_first i width (n / 256)
bytes_low_first-suc zero i n = refl
bytes_low_first-suc (suc width) i n =
    let here = byte_at-suc i n in
    let above = bytes_low_first-suc width (suc i) n in
    λ k. here k ∷ above k

-- the bytes of a number: the lowest byte, and the bytes of the number without it
pub little_bytes-suc : (width n : ℕ) → little_bytes (suc width) n ≡ (n % 256) ∷ little_bytes width (n / 256)
little_bytes-suc width n = ap (λ bs. (n % 256) ∷ bs) (bytes_low_first-suc width 0 n)

-- the number that bytes encode: the first byte, and the number that the bytes after it encode
little_number-cons : (width b : ℕ) (bs : List ℕ) → little_number (suc width) (b ∷ bs) ≡ b + 256 * little_number width bs
little_number-cons width b bs = ap (λ m. b + 256 * m) (little_from-cons 0 width b bs)

-- bytes are those of the number that they encode
pub little_bytes-little_number : (width : ℕ) (xs : List ℕ) → IsBytes xs → width ≤ length xs → little_bytes width (little_number width xs) ≡ take width xs
little_bytes-little_number zero xs small h = refl
little_bytes-little_number (suc width) [] small h = absurd (omega arith)
little_bytes-little_number (suc width) (b ∷ bs) small h =
    let n = b + 256 * little_number width bs in
    let low : n % 256 ≡ b = let b' = small 0 in omega arith in
    let high : n / 256 ≡ little_number width bs = let b' = small 0 in omega arith in
    ap (little_bytes (suc width)) (little_number-cons width b bs)
    ∙ little_bytes-suc width n
    ∙ (λ k. low k ∷ little_bytes width (high k))
    ∙ ap (λ ys. b ∷ ys) (little_bytes-little_number width bs (λ i. small (suc i)) (omega arith))

-- the same at an offset
pub little_bytes-little_number_at : (at width : ℕ) (xs : List ℕ) → IsBytes xs → at + width ≤ length xs → little_bytes width (little_number width (drop at xs)) ≡ take width (drop at xs)
little_bytes-little_number_at at width xs b h = little_bytes-little_number width (drop at xs) (IsBytes-drop at xs b) (omega (arith, length-drop at xs))

-- the number that bytes after others encode, whatever follows
pub little_number-between : (before behind bytes : List ℕ) (at width : ℕ) → length before ≡ at → length bytes ≡ width → little_number width (drop at (before ++ (bytes ++ behind))) ≡ little_number width bytes
little_number-between before behind bytes at width h l =
    ap (little_number width) (drop_at before (bytes ++ behind) at h) ∙ little_from-append width bytes behind (omega arith)
