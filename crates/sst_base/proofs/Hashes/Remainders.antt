-- A remainder by a reciprocal: the quotient is at most one too small.
use Rattle.std.proofs.Common.{◌≡◌, ◌<◌, ◌≤◌, ℕ, ◌+◌, ◌-◌, ◌*◌, ◌/◌, ◌%◌, ◌^◌, sym, ap, ◌∙◌, arith}
use Rattle.std.proofs.Math.Nat.{mul-le-mul_left, mul-le-mul_right}
use Rattle.std.proofs.lemmas.Nat.{mod-mul-add}

-- with v the reciprocal of m and q the high half of h * v: q * m is at most h
pub not_above : (h m v q : ℕ) → 1 ≤ m → v ≡ (2 ^ 64 - 1) / m → q ≡ h * v / 2 ^ 64 → q * m ≤ h
not_above h m v q some e f =
    let a : m * v ≤ 2 ^ 64 - 1 = rw e (omega arith) in
    let b : (q * 2 ^ 64) * m ≤ (h * v) * m = mul-le-mul_right m (omega arith) in
    let c : h * (m * v) ≤ h * (2 ^ 64 - 1) = mul-le-mul_left h a in
    omega arith

-- and is less than two m below it
pub near : (h m v q : ℕ) → h < 2 ^ 64 → 1 ≤ m → v ≡ (2 ^ 64 - 1) / m → q ≡ h * v / 2 ^ 64 → h < q * m + 2 * m
near h m v q small some e f =
    let a : 2 ^ 64 ≤ m * v + m = rw e (omega arith) in
    let b : (h * v + 1) * m ≤ (q * 2 ^ 64 + 2 ^ 64) * m = mul-le-mul_right m (omega arith) in
    let c : h * 2 ^ 64 ≤ h * (m * v + m) = mul-le-mul_left h a in
    let d : h * m ≤ (2 ^ 64 - 1) * m = mul-le-mul_right m (omega arith) in
    omega arith

-- what is left is the remainder, or a divisor more
pub rest_is : (h m q r : ℕ) → h ≡ q * m + r → r < m → r ≡ h % m
rest_is h m q r e less = sym (ap (λ n. n % m) e ∙ mod-mul-add q m r less)

pub rest_more : (h m q r : ℕ) → h ≡ q * m + r → m ≤ r → r < 2 * m → r - m ≡ h % m
rest_more h m q r e more less = rest_is h m (q + 1) (r - m) (omega arith) (omega arith)
