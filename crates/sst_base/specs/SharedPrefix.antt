-- The prefix that two byte strings share.
use Rattle.std.specs.Prelude.{ℕ, suc, ◌==◌, if◌then◌else◌, List, [], ◌∷◌}

-- the length of the longest shared prefix of two byte strings
abbrev pub shared_prefix_length : List ℕ → List ℕ → ℕ
shared_prefix_length [] ys = 0
shared_prefix_length (x ∷ xs) [] = 0
shared_prefix_length (x ∷ xs) (y ∷ ys) = if x == y then suc (shared_prefix_length xs ys) else 0
