-- Laws of joined blocks: how many items are before a block.
use Rattle.std.proofs.Common.{◌≡◌, ℕ, zero, suc, ◌+◌, ◌≤◌, List, [], ◌∷◌, ◌++◌, length, take, slice_get, Some, refl, ap, arith, length-append}
use Rattle.sstable_blocks.specs.Blocks.{joined}

module _ {X : Type 0} where
  -- no item is before the first block
  pub before_none : (blocks : List (List X)) → length (joined (take 0 blocks)) ≡ 0
  before_none [] = refl
  before_none (b ∷ bs) = refl

  -- how many items are before the next block
  pub before_next : (blocks : List (List X)) (b : ℕ) (xs : List X) → slice_get blocks b ≡ Some xs → length (joined (take (suc b) blocks)) ≡ length (joined (take b blocks)) + length xs
  before_next [] b xs here = absurd (cc)
  before_next (ys ∷ blocks) zero xs here =
      (let e : ys ≡ xs = cc (here) in let n = length-append ys (joined (take 0 blocks)) in let d = ap length e in let z = before_none blocks in omega (arith, n, d, z))
  before_next (ys ∷ blocks) (suc b) xs here =
      (let k = before_next blocks b xs here in let m = length-append ys (joined (take (suc b) blocks)) in let n = length-append ys (joined (take b blocks)) in omega (arith, k, m, n))

  -- no fewer items are before a later block
  pub before_le : (blocks : List (List X)) (b c : ℕ) → b ≤ c → length (joined (take b blocks)) ≤ length (joined (take c blocks))
  before_le blocks zero c less = omega arith
  before_le [] (suc b) c less = omega arith
  before_le (ys ∷ blocks) (suc b) zero less = absurd (omega (arith, less))
  before_le (ys ∷ blocks) (suc b) (suc c) less =
      (let k = before_le blocks b c (omega (arith, less)) in let m = length-append ys (joined (take b blocks)) in let n = length-append ys (joined (take c blocks)) in omega (arith, k, m, n))
