-- The order of internal keys: by user key rising, then by sequence number falling. The value type plays no part.
use Rattle.std.specs.Prelude.{◌≢◌, ℕ, List, [], ◌∷◌}
use Rattle.std.specs.declared.cmp.Ordering.{Ordering}
use Rattle.std.specs.declared.cmp.Ordering.TheVariants.{Less}
use Rattle.std.specs.Ordering.{nat_cmp, on, flip_args, then_cmp}
use Rattle.std.specs.Cmp.Lexicographic.{slice_cmp}
use Rattle.sst_base.specs.Key.{Key}

-- the order of whatever has a key and a sequence number
abbrev pub versions_cmp : {X : Type 0} → (X → List ℕ) → (X → ℕ) → X → X → Ordering
versions_cmp key seqno = then_cmp (on key (slice_cmp nat_cmp)) (flip_args (on seqno nat_cmp))

-- the order of internal keys
abbrev pub key_cmp : Key → Key → Ordering
key_cmp = versions_cmp (λ k. k.user_key) (λ k. k.seqno)

-- no member sorts before its predecessor; equal ones may repeat
abbrev pub IsInOrder : {X : Type 0} → (X → X → Ordering) → List X → Type 0
IsInOrder cmp [] = Unit {0}
IsInOrder cmp (x ∷ []) = Unit {0}
IsInOrder cmp (x ∷ y ∷ xs) = (cmp y x ≢ Less) × IsInOrder cmp (y ∷ xs)
