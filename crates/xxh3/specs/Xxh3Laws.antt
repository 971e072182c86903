-- The hashes fit their bits.
use Rattle.std.proofs.Common.{ℕ, ◌/◌, ◌^◌, ◌<◌, Bool, true, false, List, arith}
use Rattle.std.specs.Prelude.{if◌then◌else◌}
use Rattle.std.proofs.Math.Nat.{div-le_self}
use Rattle.std.proofs.lemmas.Nat.{xor_lt, mod_below}
use Rattle.xxh3.specs.declared.words.Halves.{Halves}
use Rattle.xxh3.specs.Xxh3.{xorshift, avalanche, old_avalanche, merged_sums, finished, hash64_to_3, hash128_of_none, hash128_to_3, hash128_to_8, hash128_to_16, hash128_to_128, hash128_to_240, hash128_long, hash128_by, default_secret, xxh3_128}

xorshift-below : (x k : ℕ) → x < 2 ^ 64 → xorshift x k < 2 ^ 64
xorshift-below x k h = xor_lt 64 x (x / 2 ^ k) h (omega (arith, div-le_self x (2 ^ k)))

avalanche-below : (x : ℕ) → avalanche x < 2 ^ 64
unfolding avalanche
avalanche-below x = xorshift-below _ 32 (mod_below _ (2 ^ 64) (omega arith))

old_avalanche-below : (x : ℕ) → old_avalanche x < 2 ^ 64
unfolding old_avalanche
old_avalanche-below x = xorshift-below _ 32 (mod_below _ (2 ^ 64) (omega arith))

-- both words of a number of 128 bits fit
abbrev AreWords : Halves → Type 0
AreWords h = (h.low < 2 ^ 64) × (h.high < 2 ^ 64)

chosen : (P : Halves → Type 0) (b : Bool) (x y : Halves) → P x → P y → P (if b then x else y)
chosen P true x y p q = p
chosen P false x y p q = q

finished-below : (bytes : List ℕ) (sums : Halves) → AreWords (finished bytes sums)
unfolding finished
finished-below bytes sums = (avalanche-below _, mod_below _ (2 ^ 64) (omega arith))

to_3-below : (secret bytes : List ℕ) → AreWords (hash128_to_3 secret bytes)
unfolding hash128_to_3 hash64_to_3
to_3-below secret bytes = (old_avalanche-below _, old_avalanche-below _)

to_8-below : (secret bytes : List ℕ) → AreWords (hash128_to_8 secret bytes)
unfolding hash128_to_8
to_8-below secret bytes = (xorshift-below _ 28 (mod_below _ (2 ^ 64) (omega arith)), avalanche-below _)

to_16-below : (secret bytes : List ℕ) → AreWords (hash128_to_16 secret bytes)
unfolding hash128_to_16
to_16-below secret bytes = (avalanche-below _, avalanche-below _)

to_128-below : (secret bytes : List ℕ) → AreWords (hash128_to_128 secret bytes)
unfolding hash128_to_128
to_128-below secret bytes = finished-below _ _

to_240-below : (secret bytes : List ℕ) → AreWords (hash128_to_240 secret bytes)
unfolding hash128_to_240
to_240-below secret bytes = finished-below _ _

long-below : (secret bytes : List ℕ) → AreWords (hash128_long secret bytes)
unfolding hash128_long merged_sums
long-below secret bytes = (avalanche-below _, avalanche-below _)

none-below : (secret : List ℕ) → AreWords (hash128_of_none secret)
unfolding hash128_of_none
none-below secret = (old_avalanche-below _, old_avalanche-below _)

by-below : (secret bytes : List ℕ) → AreWords (hash128_by secret bytes)
unfolding hash128_by
by-below secret bytes =
    chosen AreWords _ _ _ (none-below secret)
    (chosen AreWords _ _ _ (to_3-below secret bytes)
    (chosen AreWords _ _ _ (to_8-below secret bytes)
    (chosen AreWords _ _ _ (to_16-below secret bytes)
    (chosen AreWords _ _ _ (to_128-below secret bytes)
    (chosen AreWords _ _ _ (to_240-below secret bytes) (long-below secret bytes))))))

-- a hash of 128 bits fits them
pub xxh3_128-below : (bytes : List ℕ) → xxh3_128 bytes < 2 ^ 128
unfolding xxh3_128
xxh3_128-below bytes = let h = by-below default_secret bytes in omega (arith, h.0, h.1)
