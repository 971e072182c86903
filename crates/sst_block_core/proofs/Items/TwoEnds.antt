-- Byte strings that are copied in two chunks.
use Rattle.std.proofs.Common.{◌≡◌, ℕ, ◌+◌, ◌≤◌, List, ◌++◌, length, take, drop, sym, ap, ◌∙◌, arith, append_assoc, length-drop, take_all}
use Rattle.std.proofs.lemmas.List.{take-take, take-append-le, length-take-le, take-append-drop}
use Rattle.std.proofs.Math.Seq.{take-append-add, take-append_seam}

-- the first chunk, and over its end the last one: together they are the whole string
pub two_ends : (bytes before one two post post' : List ℕ) (at n last : ℕ) → at ≤ length before → last ≤ n → last + n ≡ length bytes
    → one ≡ take at before ++ (take n bytes ++ post)
    → two ≡ take (at + last) one ++ (take n (drop last bytes) ++ post')
    → take (at + length bytes) two ≡ take at before ++ bytes
two_ends bytes before one two post post' at n last room less whole p q =
    let front = take at before in
    let start = take last bytes in
    let rest = drop last bytes in
    let long : length front ≡ at = length-take-le at before room in
    let chunk : length (take n bytes) ≡ n = length-take-le n bytes (omega (arith, whole)) in
    let first : take (at + last) one ≡ front ++ start =
    ap (take (at + last)) p
    ∙ ap (λ k. take (k + last) (front ++ (take n bytes ++ post))) (sym long)
    ∙ take-append-add front (take n bytes ++ post) last
    ∙ ap (λ ys. front ++ ys) (take-append-le last (take n bytes) post (omega (arith, chunk, less)) ∙ take-take last n bytes less) in
    let second : take n rest ≡ rest = take_all n rest (omega (arith, length-drop last bytes, whole)) in
    let both : two ≡ front ++ (bytes ++ post') =
    q ∙ (λ i. first i ++ (second i ++ post'))
    ∙ append_assoc front start (rest ++ post')
    ∙ ap (λ ys. front ++ ys) (sym (append_assoc start rest post') ∙ ap (λ ys. ys ++ post') (take-append-drop last bytes)) in
    ap (take (at + length bytes)) both
    ∙ ap (λ k. take (k + length bytes) (front ++ (bytes ++ post'))) (sym long)
    ∙ take-append-add front (bytes ++ post') (length bytes)
    ∙ ap (λ ys. front ++ ys) (take-append_seam bytes post')
