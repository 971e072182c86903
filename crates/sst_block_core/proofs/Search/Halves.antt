-- A half has one digit less.
use Rattle.std.proofs.Common.{◌≡◌, ℕ, zero, suc, ◌+◌, ◌/◌, ◌≤◌, ◌<◌, arith, refl, ap}
use Rattle.sst_block_core.specs.Intervals.{digits_within, digits}

pub same_fuel : (f g n : ℕ) → n ≤ f → n ≤ g → digits_within f n ≡ digits_within g n
same_fuel zero zero zero p q = refl
same_fuel zero (suc g) zero p q = refl
same_fuel (suc f) zero zero p q = refl
same_fuel (suc f) (suc g) zero p q = refl
same_fuel zero g (suc n) p q = absurd (omega arith)
same_fuel (suc f) zero (suc n) p q = absurd (omega arith)
same_fuel (suc f) (suc g) (suc n) p q = ap (λ d. d + 1) (same_fuel f g (suc n / 2) (omega arith) (omega arith))

pub digits_mono : (f m n : ℕ) → m ≤ n → digits_within f m ≤ digits_within f n
digits_mono zero m n p = omega arith
digits_mono (suc f) zero n p = omega arith
digits_mono (suc f) (suc m) zero p = absurd (omega arith)
digits_mono (suc f) (suc m) (suc n) p = let e = digits_mono f (suc m / 2) (suc n / 2) (omega arith) in omega arith

pub digits_step : (m n : ℕ) → 0 < n → m ≤ n / 2 → digits m + 1 ≤ digits n
digits_step m zero p q = absurd (omega arith)
digits_step m (suc n) p q =
    let a = same_fuel m n m (omega arith) (omega arith) in let b = digits_mono n m (suc n / 2) q in omega arith

pub digits_half : (n : ℕ) → 0 < n → digits n ≡ digits (n / 2) + 1
digits_half zero p = absurd (omega arith)
digits_half (suc n) p = ap (λ d. d + 1) (same_fuel n (suc n / 2) (suc n / 2) (omega arith) (omega arith))
