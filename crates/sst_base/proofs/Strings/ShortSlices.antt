-- Bytes that are copied in place.
use Rattle.std.proofs.Common.{◌≡◌, ℕ, ◌+◌, ◌≤◌, List, ◌++◌, length, take, refl, sym, ap, ◌∙◌, arith, append_assoc, length-append}
use Rattle.std.proofs.lemmas.List.{take_at, take-take, take-append-le, length-take-le}
use Rattle.bytes.proofs.Ranges.{take-append_past}
use Rattle.std.specs.Array.{IsFirstChunk}

-- two byte strings, copied one after the other to the start of an array
pub joined_front : (left right l r z post : List ℕ) → l ≡ left → r ≡ right
    → take (length left + length right) (take (length left) (l ++ z) ++ (r ++ post)) ≡ left ++ right
joined_front left right l r z post e f =
    (λ i. take (length left + length right) (take (length left) (e i ++ z) ++ (f i ++ post)))
    ∙ ap (λ xs. take (length left + length right) (xs ++ (right ++ post))) (take_at left z (length left) refl)
    ∙ ap (take (length left + length right)) (sym (append_assoc left right post))
    ∙ take_at (left ++ right) post (length left + length right) (length-append left right)

-- the first bytes of an array that was copied
pub cut_front : (xs ys : List ℕ) (n : ℕ) → n ≤ 40 → IsFirstChunk xs ys 40 → take n ys ≡ take n xs
cut_front xs ys n h c = ap (take n) c.same ∙ take-take n 40 xs h

-- the first bytes of two arrays, the second array copied over what follows the first bytes of the first
pub joined_wide : (left right a bytes post z : List ℕ) (n m : ℕ) → n + m ≤ 40 → length left ≡ 40 → length right ≡ 40
    → a ≡ left ++ z → bytes ≡ take 40 (take n a ++ (right ++ post)) → take (n + m) bytes ≡ take n left ++ take m right
joined_wide left right a bytes post z n m h l r e f =
    let inside : n ≤ length left = omega (arith, l, h) in
    let front : take n a ≡ take n left = ap (take n) e ∙ take-append-le n left z inside in
    let long : length (take n left) ≡ n = length-take-le n left inside in
    ap (take (n + m)) f ∙ take-take (n + m) 40 (take n a ++ (right ++ post)) h
    ∙ ap (λ xs. take (n + m) (xs ++ (right ++ post))) front
    ∙ take-append_past (take n left) (right ++ post) m (n + m) (ap (λ k. k + m) (sym long))
    ∙ ap (λ ys. take n left ++ ys) (take-append-le m right post (omega (arith, r, h)))
