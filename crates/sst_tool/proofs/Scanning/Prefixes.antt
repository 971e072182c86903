-- The ends of prefixes.
use Rattle.std.proofs.Common.{◌≡◌, ◌∙◌, ◌<◌, ◌≤◌, ℕ, ◌+◌, List, [], ◌∷◌, ◌++◌, refl, ap, Option, Some, None, rules, arith}
use Rattle.sst_tool.specs.Keys.{prefix_end, first_or}

without-last : (xs : List ℕ) (x : ℕ) → 255 ≤ x → prefix_end (xs ++ x ∷ []) ≡ prefix_end xs
without-last [] x full = grind arith
without-last (y ∷ ys) x full = ap (first_or y) (without-last ys x full)

greater-last : (xs : List ℕ) (x : ℕ) → x < 255 → prefix_end (xs ++ x ∷ []) ≡ Some (xs ++ (x + 1) ∷ [])
greater-last [] x less = grind arith
greater-last (y ∷ ys) x less = ap (first_or y) (greater-last ys x less)

-- a last byte that is 255 is left out
pub end_of_full : (all xs : List ℕ) (x : ℕ) → all ≡ xs ++ x ∷ [] → 255 ≤ x → prefix_end all ≡ prefix_end xs
end_of_full all xs x is full = ap prefix_end is ∙ without-last xs x full

-- any other is greater by 1
pub end_of_less : (all xs : List ℕ) (x : ℕ) → all ≡ xs ++ x ∷ [] → x < 255 → prefix_end all ≡ Some (xs ++ (x + 1) ∷ [])
end_of_less all xs x is less = ap prefix_end is ∙ greater-last xs x less
