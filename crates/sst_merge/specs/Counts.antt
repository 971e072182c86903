-- What reads count.
use Rattle.std.specs.Prelude.{◌⊎◌, ℕ, List, [], ◌∷◌}
use Rattle.std.specs.List.{sum_by}

-- the most that is counted of readers together
abbrev pub most_of : List (ℕ × ℕ) → ℕ × ℕ
most_of mosts = (sum_by (λ m. m.0) mosts, sum_by (λ m. m.1) mosts)

-- a read of one of some readers fails so
abbrev pub OneFails : {R : Type 0} → (R → Type 0) → List R → Type 0
OneFails fails [] = ⊥
OneFails fails (r ∷ readers) = fails r ⊎ OneFails fails readers
