-- Laws of the back of a window: where its interval begins.
use Rattle.std.proofs.Common.{◌≡◌, ℕ, ◌+◌, ◌-◌, ◌*◌, ◌/◌, ◌<◌, ◌≤◌, refl, arith}
use Rattle.std.proofs.Math.Nat.{lt-div-mul-add, div-mul-le_self}
use Rattle.sst_block_core.specs.Backs.{first_of}

-- where the interval of the last place before an end begins
pub first_of_is : (r end : ℕ) → first_of r end ≡ (end - 1) / r * r
unfolding first_of
first_of_is r end = refl

-- it begins before the end
pub first_below : (r end : ℕ) → 0 < end → (end - 1) / r * r < end
first_below r end h = let d = div-mul-le_self (end - 1) r in omega (arith, d, h)

-- and no more than an interval before it
pub first_near : (r end : ℕ) → 0 < r → end ≤ (end - 1) / r * r + r
first_near r end h = let d = lt-div-mul-add {a = end - 1} {b = r} h in omega (arith, d)
