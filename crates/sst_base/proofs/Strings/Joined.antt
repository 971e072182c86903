-- A prefix and a suffix against a needle, as the parts of either are compared.
use Rattle.std.proofs.Common.{◌≡◌, ◌≢◌, ℕ, ◌+◌, ◌≤◌, List, ◌++◌, length, take, drop, sym, ◌∙◌, ap}
use Rattle.std.specs.Cmp.Lexicographic.{slice_cmp}
use Rattle.std.specs.Ordering.{nat_cmp, ordering_then}
use Rattle.std.specs.declared.cmp.Ordering.{Ordering}
use Rattle.std.specs.declared.cmp.Ordering.TheVariants.{Equal}
use Rattle.sst_base.specs.OrderLaws.{slice_cmp-prefix, slice_cmp-needle}
use Rattle.sst_base.proofs.Strings.Orders.{decided}

-- the needle ends inside the prefix
pub needle_inside : (p s n front rest : List ℕ) (o w t : Ordering) → length n ≤ length p → front ≡ take (length n) p → rest ≡ drop (length n) p → o ≡ slice_cmp nat_cmp front n → w ≡ nat_cmp (length rest + length s) 0 → t ≡ ordering_then o w → t ≡ slice_cmp nat_cmp (p ++ s) n
needle_inside p s n front rest o w t h f r co cw ct =
    ct ∙ ap (λ x. ordering_then x w) (co ∙ ap (λ x. slice_cmp nat_cmp x n) f)
    ∙ ap (ordering_then (slice_cmp nat_cmp (take (length n) p) n)) (cw ∙ ap (λ x. nat_cmp (length x + length s) 0) r)
    ∙ sym (slice_cmp-needle p s n h)

-- the needle begins with the prefix
pub prefix_equal : (p s n front rest : List ℕ) (o t : Ordering) → length p ≤ length n → front ≡ take (length p) n → rest ≡ drop (length p) n → o ≡ slice_cmp nat_cmp p front → o ≡ Equal → t ≡ slice_cmp nat_cmp s rest → t ≡ slice_cmp nat_cmp (p ++ s) n
prefix_equal p s n front rest o t h f r co e ct =
    ct ∙ ap (λ x. slice_cmp nat_cmp s x) r
    ∙ ap (λ x. ordering_then x (slice_cmp nat_cmp s (drop (length p) n))) (sym e ∙ co ∙ ap (slice_cmp nat_cmp p) f)
    ∙ sym (slice_cmp-prefix p s n h)

-- the needle does not begin with the prefix
pub prefix_differs : (p s n front : List ℕ) (o : Ordering) → length p ≤ length n → front ≡ take (length p) n → o ≡ slice_cmp nat_cmp p front → o ≢ Equal → o ≡ slice_cmp nat_cmp (p ++ s) n
prefix_differs p s n front o h f co ne =
    sym (decided o (slice_cmp nat_cmp s (drop (length p) n)) ne)
    ∙ ap (λ x. ordering_then x (slice_cmp nat_cmp s (drop (length p) n))) (co ∙ ap (slice_cmp nat_cmp p) f)
    ∙ sym (slice_cmp-prefix p s n h)
