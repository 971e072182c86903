-- The first items of a source.
use Rattle.std.proofs.Common.{◌≡◌, ◌∙◌, ◌<◌, ◌-◌, ℕ, List, [], ◌∷◌, take, ap, Option, Some, None, arith}
use Rattle.std.specs.Option.{option_map}
use Rattle.sstable_blocks.specs.Prelude.{Entry}
use Rattle.sst_sources.specs.Sources.{Left, TakesFirst}
use Rattle.sst_tool.specs.Limits.{limited}

take-first : (n : ℕ) (x : Entry) (xs : List Entry) → 0 < n → take n (x ∷ xs) ≡ x ∷ take (n - 1) xs
take-first n x xs some = grind arith

take-next : (n : ℕ) (x : Entry) (s t : Option (List Entry)) → 0 < n → s ≡ option_map (λ xs. x ∷ xs) t → option_map (take n) s ≡ option_map (λ xs. x ∷ xs) (option_map (take (n - 1)) t)
take-next n x s None some is = ap (option_map (take n)) is
take-next n x s (Some xs) some is = ap (option_map (take n)) is ∙ ap (λ ys. Some ys) (take-first n x xs some)

-- a step that takes an item of the source takes one of the limit
pub limited_takes : (n : ℕ) (s t : Left Entry) (x : Entry) → 0 < n → TakesFirst s (Some x) t → TakesFirst (limited n s) (Some x) (limited (n - 1) t)
limited_takes n s t x some first = (take-next n x s.list t.list some first.0, first.1)
