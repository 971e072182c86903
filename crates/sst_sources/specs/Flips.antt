-- The opposite order of numbers.
use Rattle.std.proofs.Common.{◌<◌, ◌-◌, ℕ, arith}

pub front_flipped : (a b : ℕ) → 340282366920938463463374607431768211455 - a < 340282366920938463463374607431768211455 - b → b < a
front_flipped a b h = omega (arith, h)
