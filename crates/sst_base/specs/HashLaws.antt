-- Laws of the plain hash functions: a hash fits its bits, and is continued from the hash so far.
use Rattle.std.proofs.Common.{◌≡◌, ℕ, ◌+◌, ◌*◌, ◌%◌, ◌^◌, ◌<◌, List, [], ◌∷◌, ◌++◌, refl, sym, ◌∙◌, ap}
use Rattle.std.proofs.Math.Nat.{add-mod, mod-mod}
use Rattle.std.specs.List.{fold}
use Rattle.std.proofs.lemmas.Nat.{mul-mod_first, mod_below, pow_pos}
use Rattle.sst_base.specs.Hashes.{times31, plus, poly31_from, poly31, byte_sum_from, byte_sum}

pub add-mod_first : (a b m : ℕ) → (a % m + b) % m ≡ (a + b) % m
add-mod_first a b m = add-mod (a % m) b m ∙ ap (λ k. (k + b % m) % m) (mod-mod a m) ∙ sym (add-mod a b m)

-- a hash value is below its power of two
pub poly31-below : (bits : ℕ) (bytes : List ℕ) → poly31 bits bytes < 2 ^ bits
poly31-below bits bytes = mod_below (fold times31 0 bytes) (2 ^ bits) (pow_pos bits)

pub byte_sum-below : (bits : ℕ) (bytes : List ℕ) → byte_sum bits bytes < 2 ^ bits
byte_sum-below bits bytes = mod_below (fold plus 0 bytes) (2 ^ bits) (pow_pos bits)

-- bytes after others
pub fold-append : {A : Type 0} (f : A → ℕ → A) (h : A) (xs ys : List ℕ) → fold f h (xs ++ ys) ≡ fold f (fold f h xs) ys
fold-append f h [] ys = refl
fold-append f h (x ∷ xs) ys = fold-append f (f h x) xs ys

-- a step from the remainder of a number by the modulus
pub step_mod : (h b m : ℕ) → ((h % m) * 31 + b) % m ≡ (h * 31 + b) % m
step_mod h b m =
    sym (add-mod_first ((h % m) * 31) b m) ∙ ap (λ k. (k + b) % m) (mul-mod_first h 31 m) ∙ add-mod_first (h * 31) b m

pub fold31-mod : (m h : ℕ) (bytes : List ℕ) → fold times31 (h % m) bytes % m ≡ fold times31 h bytes % m
fold31-mod m h [] = mod-mod h m
fold31-mod m h (b ∷ bytes) =
    sym (fold31-mod m ((h % m) * 31 + b) bytes)
    ∙ ap (λ k. fold times31 k bytes % m) (step_mod h b m)
    ∙ fold31-mod m (h * 31 + b) bytes

pub fold_plus-mod : (m h : ℕ) (bytes : List ℕ) → fold plus (h % m) bytes % m ≡ fold plus h bytes % m
fold_plus-mod m h [] = mod-mod h m
fold_plus-mod m h (b ∷ bytes) =
    sym (fold_plus-mod m (h % m + b) bytes)
    ∙ ap (λ k. fold plus k bytes % m) (add-mod_first h b m)
    ∙ fold_plus-mod m (h + b) bytes

-- a hash is continued from the hash of the bytes before
pub poly31-append : (bits : ℕ) (xs ys : List ℕ) → poly31_from bits (poly31 bits xs) ys ≡ poly31 bits (xs ++ ys)
poly31-append bits xs ys = fold31-mod (2 ^ bits) (fold times31 0 xs) ys ∙ ap (λ k. k % 2 ^ bits) (sym (fold-append times31 0 xs ys))

pub byte_sum-append : (bits : ℕ) (xs ys : List ℕ) → byte_sum_from bits (byte_sum bits xs) ys ≡ byte_sum bits (xs ++ ys)
byte_sum-append bits xs ys = fold_plus-mod (2 ^ bits) (fold plus 0 xs) ys ∙ ap (λ k. k % 2 ^ bits) (sym (fold-append plus 0 xs ys))
