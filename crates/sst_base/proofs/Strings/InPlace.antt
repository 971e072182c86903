-- Parts of a short form, put one after the other.
use Rattle.std.proofs.Common.{◌≡◌, ℕ, ◌+◌, ◌-◌, ◌≤◌, List, ◌++◌, length, take, drop, refl, sym, ap, ◌∙◌, arith, append_assoc, length-drop, take-add, min, take_all}
use Rattle.std.proofs.lemmas.List.{take-take, take-append-le, length-take-le, drop-drop, drop-take}
use Rattle.sst_base.specs.Reading.{length_prefixed}
use Rattle.sst_base.specs.Varint.{varint}
use Rattle.bytes.proofs.Ranges.{take-append_past}

-- a chunk that begins within what was put: what is put then ends with the chunk
pub chunk_put : (before rest form form' post : List ℕ) (at m m' : ℕ) → length (take at before) ≡ at → at + m ≤ length form → m' ≤ m → m' + 16 ≤ length rest
    → take (at + m) form ≡ take at before ++ take m rest
    → form' ≡ take (at + m') form ++ (take 16 (drop m' rest) ++ post)
    → take (at + (m' + 16)) form' ≡ take at before ++ take (m' + 16) rest
chunk_put before rest form form' post at m m' long room less inside so put =
    let short : take (at + m') form ≡ take at before ++ take m' rest =
    sym (take-take (at + m') (at + m) form (omega (arith, less)))
    ∙ ap (take (at + m')) so
    ∙ take-append_past (take at before) (take m rest) m' (at + m') (ap (λ k. k + m') (sym long))
    ∙ ap (λ ys. take at before ++ ys) (take-take m' m rest less) in
    let len : length (take (at + m') form) ≡ at + m' = length-take-le (at + m') form (omega (arith, room, less)) in
    let chunk : length (take 16 (drop m' rest)) ≡ 16 = length-take-le 16 (drop m' rest) (omega (arith, length-drop m' rest, inside)) in
    ap (take (at + (m' + 16))) put
    ∙ take-append_past (take (at + m') form) (take 16 (drop m' rest) ++ post) 16 (at + (m' + 16)) (omega (arith, len))
    ∙ ap (λ ys. take (at + m') form ++ ys) (take-append-le 16 (take 16 (drop m' rest)) post (omega (arith, chunk)) ∙ take-take 16 16 (drop m' rest) (omega arith))
    ∙ ap (λ xs. xs ++ take 16 (drop m' rest)) short
    ∙ append_assoc (take at before) (take m' rest) (take 16 (drop m' rest))
    ∙ ap (λ ys. take at before ++ ys) (sym (take-add m' 16 rest))

-- the first chunk
pub first_put : (before rest form' post : List ℕ) (at : ℕ) → length (take at before) ≡ at → 16 ≤ length rest → form' ≡ take at before ++ (take 16 rest ++ post) → take (at + 16) form' ≡ take at before ++ take 16 rest
first_put before rest form' post at long inside put =
    let chunk : length (take 16 rest) ≡ 16 = length-take-le 16 rest inside in
    ap (take (at + 16)) put
    ∙ take-append_past (take at before) (take 16 rest ++ post) 16 (at + 16) (ap (λ k. k + 16) (sym long))
    ∙ ap (λ ys. take at before ++ ys) (take-append-le 16 (take 16 rest) post (omega (arith, chunk)) ∙ take-take 16 16 rest (omega arith))

-- a chunk from an index of the string is one of what is put
chunk_of : (bytes rest : List ℕ) (from index m : ℕ) → rest ≡ drop from bytes → index ≡ from + m → take 16 (drop index bytes) ≡ take 16 (drop m rest)
chunk_of bytes rest from index m e f = ap (λ i. take 16 (drop i bytes)) f ∙ ap (take 16) (sym (drop-drop m from bytes) ∙ ap (drop m) (sym e))

-- three chunks, the last of which ends with the string
pub three_put : (bytes before one two three post post' post'' : List ℕ) (at from second : ℕ) → length bytes ≡ 40 → length one ≡ length before → length two ≡ length one
    → at + 40 ≤ length before → from ≤ 24 → second ≡ min (from + 16) 24
    → one ≡ take at before ++ (take 16 (drop from bytes) ++ post)
    → two ≡ take (at + (second - from)) one ++ (take 16 (drop second bytes) ++ post')
    → three ≡ take (at + (24 - from)) two ++ (take 16 (drop 24 bytes) ++ post'')
    → take (at + (40 - from)) three ≡ take at before ++ drop from bytes
three_put bytes before one two three post post' post'' at from second b k j room inside is p q r =
    let rest = drop from bytes in
    let lr : length rest + from ≡ 40 = omega (arith, length-drop from bytes, b, inside) in
    let long : length (take at before) ≡ at = length-take-le at before (omega (arith, room)) in
    let far : (second ≤ from + 16) × (from ≤ second) × (second ≤ 24) × (24 ≤ second + 16) = (omega (arith, is), omega (arith, is, inside), omega (arith, is), omega (arith, is)) in
    let first = first_put before rest one post at long (omega (arith, lr, inside)) p in
    let then = chunk_put before rest one two post' at 16 (second - from) long (omega (arith, k, room)) (omega (arith, far.0, far.1)) (omega (arith, lr, far.1, far.2)) first
    (q ∙ ap (λ xs. take (at + (second - from)) one ++ (xs ++ post')) (chunk_of bytes rest from second (second - from) refl (omega (arith, far.1)))) in
    let last = chunk_put before rest two three post'' at (second - from + 16) (24 - from) long (omega (arith, j, k, room, far.1, far.2)) (omega (arith, far.1, far.3)) (omega (arith, lr, inside)) then
    (r ∙ ap (λ xs. take (at + (24 - from)) two ++ (xs ++ post'')) (chunk_of bytes rest from 24 (24 - from) refl (omega (arith, inside)))) in
    let whole : 40 - from ≡ 24 - from + 16 = omega (arith, inside) in
    ap (λ n. take (at + n) three) whole ∙ last ∙ ap (λ ys. take at before ++ ys) (take_all (24 - from + 16) rest (omega (arith, lr, inside)))

-- fewer bytes of what was put
pub fewer_put : (bytes before form : List ℕ) (at m k : ℕ) → length (take at before) ≡ at → k ≤ m → take (at + m) form ≡ take at before ++ bytes → take (at + k) form ≡ take at before ++ take k bytes
fewer_put bytes before form at m k long less e =
    sym (take-take (at + k) (at + m) form (omega (arith, less))) ∙ ap (take (at + k)) e
    ∙ take-append_past (take at before) bytes k (at + k) (ap (λ n. n + k) (sym long))

-- the rest of a byte string that is held as the first bytes of an array, with its length before it
pub rest_prefixed : (bytes string : List ℕ) (from len : ℕ) → length bytes ≡ 40 → len ≤ 40 → from ≤ length string → take len bytes ≡ string
    → varint (len - from) ++ take (len - from) (drop from bytes) ≡ length_prefixed (drop from string)
rest_prefixed bytes string from len l h inside e =
    let whole : length string ≡ len = sym (ap length e) ∙ length-take-le len bytes (omega (arith, l, h)) in
    let left : len - from ≡ length (drop from string) = omega (arith, length-drop from string, whole) in
    let order : len ≡ from + (len - from) = omega (arith, inside, whole) in
    let part : take (len - from) (drop from bytes) ≡ drop from string = sym (drop-take from (len - from) bytes) ∙ ap (λ n. drop from (take n bytes)) (sym order) ∙ ap (drop from) e in
    (λ i. varint (left i) ++ part i)
