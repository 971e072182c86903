-- Laws of lists and tests: what follows in an ordered one, the first item that passes a test, and an item that is left out or kept.
use Rattle.std.proofs.Common.{◌≡◌, ℕ, suc, nat_lt, inl, inr, sym, arith, Bool, true, false, not, cond, ◌&&◌, List, [], ◌∷◌, ◌++◌, Option, Some, ap, ◌∙◌, filter, slice_get}
use Rattle.std.proofs.lemmas.Bool.{cases_lt, lt-ltb, le-ltb}
use Rattle.sstable_blocks.specs.BlockLaws.{first_filter, and_parts, not_true}

-- a comparison of the next numbers
pub lt_suc : (a b : ℕ) → nat_lt (suc a) (suc b) ≡ nat_lt a b
lt_suc a b = elim (cases_lt a b) [
  | inl less ↦ lt-ltb (suc a) (suc b) (omega (arith, less)) ∙ sym (lt-ltb a b less)
  | inr more ↦ le-ltb (suc a) (suc b) (omega (arith, more)) ∙ sym (le-ltb a b more)
]

module _ {X : Type 0} (test : X → Bool) where
  -- the first item that passes
  abbrev pub first : List X → Option X
  first xs = slice_get (filter test xs) 0

  pub first_hit : (x : X) (xs : List X) → test x ≡ true → first (x ∷ xs) ≡ Some x
  first_hit x xs h = first_filter test x xs ∙ ap (λ b. cond b (Some x) (first xs)) h

  pub first_miss : (x : X) (xs : List X) → test x ≡ false → first (x ∷ xs) ≡ first xs
  first_miss x xs h = first_filter test x xs ∙ ap (λ b. cond b (Some x) (first xs)) h

-- an item that is left out where a test holds is kept where it does not
pub left_out : {X : Type 0} (t : Bool) (x : X) (xs ys : List X) → xs ≡ ys → cond t xs (x ∷ xs) ≡ cond (not t) (x ∷ ys) ys
left_out true x xs ys e = e
left_out false x xs ys e = ap (λ zs. x ∷ zs) e

-- two tests of which one holds and the other does not
pub and_not_parts : (a b : Bool) → (a && not b) ≡ true → (a ≡ true) × (b ≡ false)
and_not_parts a b h = let both = and_parts a (not b) h in (both.0, not_true b both.1)
