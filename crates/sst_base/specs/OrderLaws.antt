-- Laws of the bytewise order, of strings that are joined or cut.
use Rattle.std.proofs.Common.{◌≡◌, ℕ, ◌+◌, ◌≤◌, inl, inr, List, [], ◌∷◌, ◌++◌, length, take, drop, refl, arith, sym, ◌∙◌, ap, append_assoc, length-append}
use Rattle.std.proofs.lemmas.Bool.{cases_lt}
use Rattle.std.proofs.lemmas.List.{take-append-drop, length-take-le, append-nil}
use Rattle.std.specs.Cmp.{nat_cmp_is}
use Rattle.std.specs.Cmp.Lexicographic.{slice_cmp}
use Rattle.std.specs.Ordering.{nat_cmp, ordering_then}
use Rattle.std.specs.declared.cmp.Ordering.{Ordering}
use Rattle.std.specs.declared.cmp.Ordering.TheVariants.{Less, Equal, Greater}

pub ordering_then_assoc : (a b c : Ordering) → ordering_then a (ordering_then b c) ≡ ordering_then (ordering_then a b) c
ordering_then_assoc Less b c = refl
ordering_then_assoc Equal b c = refl
ordering_then_assoc Greater b c = refl

-- prefixes of one length decide first, and then the bytes after them
pub slice_cmp-append : (p q s t : List ℕ) → length p ≡ length q → slice_cmp nat_cmp (p ++ s) (q ++ t) ≡ ordering_then (slice_cmp nat_cmp p q) (slice_cmp nat_cmp s t)
slice_cmp-append [] [] s t h = refl
slice_cmp-append [] (y ∷ q) s t h = absurd (omega arith)
slice_cmp-append (x ∷ p) [] s t h = absurd (omega arith)
slice_cmp-append (x ∷ p) (y ∷ q) s t h =
    ap (ordering_then (nat_cmp x y)) (slice_cmp-append p q s t (omega arith))
    ∙ ordering_then_assoc (nat_cmp x y) (slice_cmp nat_cmp p q) (slice_cmp nat_cmp s t)

-- a string is greater than the empty one, unless it is empty itself
pub slice_cmp-nil : (xs : List ℕ) → slice_cmp nat_cmp xs [] ≡ nat_cmp (length xs) 0
slice_cmp-nil [] = refl
slice_cmp-nil (x ∷ xs) = nat_cmp_is (length (x ∷ xs)) 0 Greater (omega arith)

-- a prefix and a suffix against a longer string
pub slice_cmp-prefix : (p s n : List ℕ) → length p ≤ length n → slice_cmp nat_cmp (p ++ s) n ≡ ordering_then (slice_cmp nat_cmp p (take (length p) n)) (slice_cmp nat_cmp s (drop (length p) n))
slice_cmp-prefix p s n h =
    let l : length (take (length p) n) ≡ length p = length-take-le (length p) n h in
    ap (slice_cmp nat_cmp (p ++ s)) (sym (take-append-drop (length p) n))
    ∙ slice_cmp-append p (take (length p) n) s (drop (length p) n) (sym l)

-- a prefix and a suffix against a string that is no longer than the prefix
pub slice_cmp-needle : (p s n : List ℕ) → length n ≤ length p → slice_cmp nat_cmp (p ++ s) n ≡ ordering_then (slice_cmp nat_cmp (take (length n) p) n) (nat_cmp (length (drop (length n) p) + length s) 0)
slice_cmp-needle p s n h =
    let l : length (take (length n) p) ≡ length n = length-take-le (length n) p h in
    let split : p ++ s ≡ take (length n) p ++ (drop (length n) p ++ s) =
    ap (λ q. q ++ s) (sym (take-append-drop (length n) p)) ∙ append_assoc (take (length n) p) (drop (length n) p) s in
    ap (λ q. slice_cmp nat_cmp q n) split
    ∙ ap (slice_cmp nat_cmp (take (length n) p ++ (drop (length n) p ++ s))) (sym (append-nil n))
    ∙ slice_cmp-append (take (length n) p) n (drop (length n) p ++ s) [] l
    ∙ ap (ordering_then (slice_cmp nat_cmp (take (length n) p) n)) (slice_cmp-nil (drop (length n) p ++ s) ∙ ap (λ k. nat_cmp k 0) (length-append (drop (length n) p) s))

-- adding one number to both sides changes no comparison
pub nat_cmp-add_left : (c m n : ℕ) → nat_cmp (c + m) (c + n) ≡ nat_cmp m n
nat_cmp-add_left c m n = elim (cases_lt m n) [
  | inl less ↦ sym (nat_cmp_is (c + m) (c + n) Less (omega arith)) ∙ nat_cmp_is m n Less less
  | inr more ↦ elim (cases_lt n m) [
    | inl greater ↦ sym (nat_cmp_is (c + m) (c + n) Greater (omega arith)) ∙ nat_cmp_is m n Greater greater
    | inr most ↦ sym (nat_cmp_is (c + m) (c + n) Equal (omega arith)) ∙ nat_cmp_is m n Equal (omega arith)
  ]
]
