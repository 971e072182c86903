-- Laws of tests: what the result of a test says of what was tested.
use Rattle.std.proofs.Common.{◌≡◌, ◌≢◌, ℕ, ◌<◌, ◌≤◌, Bool, true, false, not, ◌&&◌, ltb, Option, Some, None, refl, arith}
use Rattle.std.proofs.lemmas.Bool.Decides.{nat_tests}
use Rattle.std.specs.Ordering.{is_eq, is_lt}
use Rattle.std.specs.declared.cmp.Ordering.{Ordering}
use Rattle.std.specs.declared.cmp.Ordering.TheVariants.{Less, Equal, Greater}

-- two tests that both hold
pub and_parts : (a b : Bool) → (a && b) ≡ true → (a ≡ true) × (b ≡ true)
and_parts true b e = (refl, e)
and_parts false b e = cc

-- a negation that holds
pub not_true : (b : Bool) → not b ≡ true → b ≡ false
not_true true h = cc
not_true false h = refl

-- a negation that does not hold
pub not_false : (b : Bool) → not b ≡ false → b ≡ true
not_false true h = refl
not_false false h = cc

-- a number below another
pub lt_test : (a b : ℕ) → a < b → ltb a b ≡ true
lt_test a b h = grind (arith, nat_tests)

-- a number that is not below another
pub ge_test : (a b : ℕ) → b ≤ a → ltb a b ≡ false
ge_test a b h = grind (arith, nat_tests)

-- whether an ordering is `Equal`, or `Less`
pub eq_is : (o : Ordering) → is_eq o ≡ true → o ≡ Equal
eq_is Less h = cc
eq_is Equal h = refl
eq_is Greater h = cc

pub lt_is : (o : Ordering) → is_lt o ≡ true → o ≡ Less
lt_is Less h = refl
lt_is Equal h = cc
lt_is Greater h = cc

pub not_lt : (o : Ordering) → is_lt o ≡ false → o ≢ Less
not_lt Less h = cc
not_lt Equal h = λ e. cc
not_lt Greater h = λ e. cc

pub is_not_lt : (o : Ordering) → o ≢ Less → is_lt o ≡ false
is_not_lt Less h = absurd (h refl)
is_not_lt Equal h = refl
is_not_lt Greater h = refl

-- an item that is there is one item
pub some_is : {A : Type 0} (a b : A) → ◌≡◌ {A = Option A} (Some a) (Some b) → a ≡ b
some_is a b e = cc

-- an item that would be absurd is not there
pub none_from : {A : Type 0} (o : Option A) → ((a : A) → o ≡ Some a → ⊥) → o ≡ None
none_from None h = refl
none_from (Some a) h = absurd (h a refl)
