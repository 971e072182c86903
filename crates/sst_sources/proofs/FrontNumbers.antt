-- Numbers of first bytes: of joined strings, and of twice as many bytes.
use Rattle.std.proofs.Common.{◌≡◌, ℕ, zero, suc, ◌+◌, ◌-◌, ◌*◌, ◌/◌, ◌%◌, ◌^◌, ◌<◌, ◌≤◌, List, [], ◌∷◌, ◌++◌, length, drop, length-drop, subst, arith, sym, slice_index, ◌∙◌, ap, min}
use Rattle.std.proofs.Math.Nat.{pow-succ', div-div-eq-div-mul}
use Rattle.std.proofs.lemmas.List.{drop-append-le, drop-drop, get_or-drop, get_or_past}
use Rattle.std.proofs.Math.Seq.{drop-append-add}
use Rattle.byteorder.specs.Endian.{big_number, big_from}
use Rattle.byteorder.specs.Numbers.{big_from-lt, big_from-append}
use Rattle.sstable_blocks.specs.Prelude.{IsBytes, front}
use Rattle.sstable_blocks.specs.BlockLaws.{big_number-cons, number_past_end, pow_256}
use Rattle.sst_sources.specs.Fronts.{key_front}

-- the last digit
big_from-last : (i n : ℕ) (xs : List ℕ) → big_from i (suc n) xs ≡ big_from i n xs * 256 + slice_index xs (i + n)
big_from-last i zero xs =
    let z : i + 0 ≡ i = omega arith in
    let e : slice_index xs (i + 0) ≡ slice_index xs i = ap (slice_index xs) z in
    omega (arith, e)
big_from-last i (suc n) xs =
    let e = big_from-last (suc i) n xs in
    let p : 256 ^ suc n ≡ 256 ^ n * 256 = omega (arith, pow-succ' 256 n) in
    let s : suc i + n ≡ i + suc n = omega arith in
    let q : slice_index xs i * 256 ^ suc n ≡ slice_index xs i * 256 ^ n * 256 = ap (λ m. slice_index xs i * m) p ∙ omega arith in
    ap (λ m. slice_index xs i * 256 ^ suc n + m) (e ∙ ap (λ k. big_from (suc i) n xs * 256 + slice_index xs k) s)
    ∙ omega (arith, q)

-- one byte fewer
one_fewer : (n : ℕ) (r : List ℕ) → IsBytes r → big_number (suc n) r / 256 ≡ big_number n r
one_fewer n r b =
    let e = big_from-last 0 n r in
    let small = b n in
    omega (arith, e, small)

-- a byte string before another: the second moves by the length of the first
pub number_joined : (n : ℕ) (p r : List ℕ) → IsBytes r → length p ≤ n → big_number n (p ++ r) ≡ big_number n p + big_number n r / 256 ^ length p
number_joined n [] r b h =
    let e = number_past_end 0 n in
    omega (arith, e)
number_joined zero (x ∷ xs) r b h = absurd (omega arith)
number_joined (suc n) (x ∷ xs) r b h =
    let e = number_joined n xs r b (omega arith) in
    let p : 256 * 256 ^ length xs ≡ 256 ^ length (x ∷ xs) = omega (arith, pow-succ' 256 (length xs)) in
    let d : big_number (suc n) r / 256 / 256 ^ length xs ≡ big_number (suc n) r / (256 * 256 ^ length xs) = div-div-eq-div-mul (big_number (suc n) r) 256 (256 ^ length xs) in
    let q : big_number n r / 256 ^ length xs ≡ big_number (suc n) r / 256 ^ length (x ∷ xs) = ap (λ m. m / 256 ^ length xs) (sym (one_fewer n r b)) ∙ d ∙ ap (λ m. big_number (suc n) r / m) p in
    let left = big_number-cons n x (xs ++ r) in
    let right = big_number-cons n x xs in
    omega (arith, left, right, e, q)

-- no more is left out than there is
min_suc : (m n : ℕ) → min (suc m) (suc n) ≡ suc (min m n)
min_suc m n = omega arith

drop_min : (n : ℕ) (xs : List ℕ) → drop (min n (length xs)) xs ≡ drop n xs
drop_min zero xs = let z : min 0 (length xs) ≡ 0 = omega arith in ap (λ k. drop k xs) z
drop_min (suc n) [] = let z : min (suc n) 0 ≡ 0 = omega arith in ap (λ k. drop {A = ℕ} k []) z
drop_min (suc n) (x ∷ xs) = ap (λ k. drop k (x ∷ xs)) (min_suc n (length xs)) ∙ drop_min n xs

-- twice as many bytes
pub number_of_16 : (xs : List ℕ) → big_number 16 xs ≡ big_number 8 xs * 2 ^ 64 + big_number 8 (drop 8 xs)
number_of_16 xs =
    let at = λ (k : ℕ). get_or-drop 8 xs k 0 in
    let a = at 0 in let b = at 1 in let c = at 2 in let d = at 3 in let e = at 4 in let f = at 5 in let g = at 6 in let h = at 7 in
    omega (arith, a, b, c, d, e, f, g, h)

-- the front of a long string is that of any string that begins with it
pub front_of_long : (p r : List ℕ) → 8 ≤ length p → front p ≡ front (p ++ r)
unfolding front
front_of_long p r h = sym (big_from-append 8 p r h)

-- a short string before another
pub front_joined : (p r : List ℕ) (a b : ℕ) → IsBytes r → length p < 8 → a ≡ front p → b ≡ front r → a + b / 2 ^ (8 * length p) ≡ front (p ++ r)
unfolding front
front_joined p r a b w h e f =
    (λ i. e i + f i / 2 ^ (8 * length p)) ∙ ap (λ n. front p + front r / n) (sym (pow_256 (length p))) ∙ sym (number_joined 8 p r w (omega (arith, h)))

-- it has 64 bits
pub front_small : (xs : List ℕ) → IsBytes xs → front xs < 2 ^ 64
unfolding front
front_small xs b = let h = big_from-lt 0 8 xs b in omega (arith, h)

-- what follows the first 8 bytes of two strings of which the first is short
pub behind_short : (p r rest : List ℕ) (n : ℕ) → length p < 8 → n ≡ min (8 - length p) (length r) → rest ≡ drop n r → rest ≡ drop 8 (p ++ r)
behind_short p r rest n h e f =
    let m : 8 ≡ length p + (8 - length p) = omega (arith, h) in
    f ∙ ap (λ k. drop k r) e ∙ drop_min (8 - length p) r ∙ sym (drop-append-add p r (8 - length p)) ∙ ap (λ k. drop k (p ++ r)) (sym m)

-- the front of a key of two fronts
pub key_front_is : (xs : List ℕ) (a b : ℕ) → a ≡ front xs → b ≡ front (drop 8 xs) → a * 2 ^ 64 + b ≡ key_front xs
unfolding front key_front
key_front_is xs a b e f = (λ i. e i * 2 ^ 64 + f i) ∙ sym (number_of_16 xs)

-- two byte strings joined
pub bytes_joined : (p r : List ℕ) → IsBytes p → IsBytes r → IsBytes (p ++ r)
bytes_joined [] r b w i = w i
bytes_joined (x ∷ xs) r b w zero = b 0
bytes_joined (x ∷ xs) r b w (suc i) = bytes_joined xs r (λ j. b (suc j)) w i

-- The front of the last bytes of 8: the front of all, moved to the left by those before them.
moved : (w : List ℕ) (p k : ℕ) → slice_index (drop p w) k ≡ slice_index w (p + k)
moved w p k = get_or-drop p w k 0

past : (w : List ℕ) → length w ≡ 8 → (i : ℕ) → 8 ≤ i → slice_index w i ≡ 0
past w l i h = get_or_past w i 0 (omega (arith, l, h))

pub front_last : (w : List ℕ) (more : ℕ) → IsBytes w → length w ≡ 8 → more < 8 → front w * 2 ^ (8 * (7 - more)) % 2 ^ 64 * 256 % 2 ^ 64 ≡ front (drop (8 - more) w)
unfolding front
front_last w zero b l h = omega (arith, b 0, b 1, b 2, b 3, b 4, b 5, b 6, b 7, moved w 8 0, moved w 8 1, moved w 8 2, moved w 8 3, moved w 8 4, moved w 8 5, moved w 8 6, moved w 8 7, past w l 8 (omega arith), past w l 9 (omega arith), past w l 10 (omega arith), past w l 11 (omega arith), past w l 12 (omega arith), past w l 13 (omega arith), past w l 14 (omega arith), past w l 15 (omega arith))
front_last w (suc zero) b l h = omega (arith, b 0, b 1, b 2, b 3, b 4, b 5, b 6, b 7, moved w 7 0, moved w 7 1, moved w 7 2, moved w 7 3, moved w 7 4, moved w 7 5, moved w 7 6, moved w 7 7, past w l 8 (omega arith), past w l 9 (omega arith), past w l 10 (omega arith), past w l 11 (omega arith), past w l 12 (omega arith), past w l 13 (omega arith), past w l 14 (omega arith))
front_last w (suc (suc zero)) b l h = omega (arith, b 0, b 1, b 2, b 3, b 4, b 5, b 6, b 7, moved w 6 0, moved w 6 1, moved w 6 2, moved w 6 3, moved w 6 4, moved w 6 5, moved w 6 6, moved w 6 7, past w l 8 (omega arith), past w l 9 (omega arith), past w l 10 (omega arith), past w l 11 (omega arith), past w l 12 (omega arith), past w l 13 (omega arith))
front_last w (suc (suc (suc zero))) b l h = omega (arith, b 0, b 1, b 2, b 3, b 4, b 5, b 6, b 7, moved w 5 0, moved w 5 1, moved w 5 2, moved w 5 3, moved w 5 4, moved w 5 5, moved w 5 6, moved w 5 7, past w l 8 (omega arith), past w l 9 (omega arith), past w l 10 (omega arith), past w l 11 (omega arith), past w l 12 (omega arith))
front_last w (suc (suc (suc (suc zero)))) b l h = omega (arith, b 0, b 1, b 2, b 3, b 4, b 5, b 6, b 7, moved w 4 0, moved w 4 1, moved w 4 2, moved w 4 3, moved w 4 4, moved w 4 5, moved w 4 6, moved w 4 7, past w l 8 (omega arith), past w l 9 (omega arith), past w l 10 (omega arith), past w l 11 (omega arith))
front_last w (suc (suc (suc (suc (suc zero))))) b l h = omega (arith, b 0, b 1, b 2, b 3, b 4, b 5, b 6, b 7, moved w 3 0, moved w 3 1, moved w 3 2, moved w 3 3, moved w 3 4, moved w 3 5, moved w 3 6, moved w 3 7, past w l 8 (omega arith), past w l 9 (omega arith), past w l 10 (omega arith))
front_last w (suc (suc (suc (suc (suc (suc zero)))))) b l h = omega (arith, b 0, b 1, b 2, b 3, b 4, b 5, b 6, b 7, moved w 2 0, moved w 2 1, moved w 2 2, moved w 2 3, moved w 2 4, moved w 2 5, moved w 2 6, moved w 2 7, past w l 8 (omega arith), past w l 9 (omega arith))
front_last w (suc (suc (suc (suc (suc (suc (suc zero))))))) b l h = omega (arith, b 0, b 1, b 2, b 3, b 4, b 5, b 6, b 7, moved w 1 0, moved w 1 1, moved w 1 2, moved w 1 3, moved w 1 4, moved w 1 5, moved w 1 6, moved w 1 7, past w l 8 (omega arith))
front_last w (suc (suc (suc (suc (suc (suc (suc (suc n)))))))) b l h = absurd (omega (arith, h))

-- the same of the last bytes of a longer string
pub front_of_rest : (xs last : List ℕ) (from n : ℕ) → IsBytes xs → 8 ≤ length xs → from ≤ length xs → length xs < from + 8 → last ≡ drop (length xs - 8) xs → n ≡ front last → n * 2 ^ (8 * (7 - (length xs - from))) % 2 ^ 64 * 256 % 2 ^ 64 ≡ front (drop from xs)
front_of_rest xs last from n b long inside few is e =
    let l : length last ≡ 8 = ap length is ∙ length-drop (length xs - 8) xs ∙ omega (arith, long) in
    let more = length xs - from in
    let bytes : IsBytes last = λ k. let h = b ((length xs - 8) + k) in let g = ap (λ ys. slice_index ys k) is ∙ moved xs (length xs - 8) k in omega (arith, h, g) in
    let on : (length xs - 8) + (8 - more) ≡ from = omega (arith, long, inside, few) in
    let cut : drop (8 - more) last ≡ drop from xs = ap (drop (8 - more)) is ∙ drop-drop (8 - more) (length xs - 8) xs ∙ ap (λ k. drop k xs) on in
    ap (λ m. m * 2 ^ (8 * (7 - more)) % 2 ^ 64 * 256 % 2 ^ 64) e ∙ front_last last more bytes l (omega (arith, few, inside)) ∙ ap front cut

-- what follows the first 8 bytes of two strings of which the first is longer
pub between : (p r : List ℕ) → 8 ≤ length p → drop 8 (p ++ r) ≡ drop 8 p ++ r
between p r h = drop-append-le 8 p r h

pub front_of_both : (p r : List ℕ) (a b : ℕ) → IsBytes r → 8 ≤ length p → length p < 16 → a ≡ front (drop 8 p) → b ≡ front r → a + b / 2 ^ (8 * (length p - 8)) ≡ front (drop 8 (p ++ r))
front_of_both p r a b w long short e f =
    let n : length (drop 8 p) ≡ length p - 8 = length-drop 8 p in
    ap (λ k. a + b / 2 ^ (8 * k)) (sym n) ∙ front_joined (drop 8 p) r a b w (omega (arith, n, short, long)) e f ∙ ap front (sym (between p r long))

pub front_of_longer : (p r rest : List ℕ) (n : ℕ) → 16 ≤ length p → rest ≡ drop 8 p → n ≡ front rest → n ≡ front (drop 8 (p ++ r))
front_of_longer p r rest n long is e =
    let l : length (drop 8 p) ≡ length p - 8 = length-drop 8 p in
    e ∙ ap front is ∙ front_of_long (drop 8 p) r (omega (arith, l, long)) ∙ ap front (sym (between p r (omega (arith, long))))
