-- The eight sums in lanes.
use Rattle.std.proofs.Common.{◌≡◌, ℕ, ◌/◌, ◌%◌, ◌^◌, List, [], ◌∷◌, ◌++◌, length, get_or, map, bit_and, bit_xor, replicate, refl, ap, arith}
use Rattle.std.proofs.lemmas.Nat.{and_mask}
use lib.Lanes.{zip2}
use Rattle.xxh3.specs.Xxh3.{add, mul, words, swapped, halves_product, with_stripe, scrambled}

low_half : (x : ℕ) → bit_and x 4294967295 ≡ x % 4294967296
low_half x = and_mask x 32

-- the products of halves, lane by lane
pub products_in_lanes : (xs : List ℕ) → length xs ≡ 8
    → zip2 mul (zip2 bit_and xs (replicate 8 4294967295)) (zip2 (λ a b. a / 2 ^ b) xs (replicate 8 32)) ≡ map halves_product xs
products_in_lanes [] l = absurd (omega arith)
products_in_lanes (a ∷ []) l = absurd (omega arith)
products_in_lanes (a ∷ b ∷ []) l = absurd (omega arith)
products_in_lanes (a ∷ b ∷ c ∷ []) l = absurd (omega arith)
products_in_lanes (a ∷ b ∷ c ∷ d ∷ []) l = absurd (omega arith)
products_in_lanes (a ∷ b ∷ c ∷ d ∷ e ∷ []) l = absurd (omega arith)
products_in_lanes (a ∷ b ∷ c ∷ d ∷ e ∷ f ∷ []) l = absurd (omega arith)
products_in_lanes (a ∷ b ∷ c ∷ d ∷ e ∷ f ∷ g ∷ []) l = absurd (omega arith)
products_in_lanes (a ∷ b ∷ c ∷ d ∷ e ∷ f ∷ g ∷ h ∷ []) l = simp low_half
products_in_lanes (a ∷ b ∷ c ∷ d ∷ e ∷ f ∷ g ∷ h ∷ x ∷ xs) l = absurd (omega arith)

pub stripe_in_lanes : (secret sums bytes : List ℕ) (i k : ℕ) (stripe keys : List ℕ) → stripe ≡ words bytes i → keys ≡ words secret k
    → zip2 add (zip2 add sums (get_or (stripe ++ stripe) 1 0 ∷ get_or (stripe ++ stripe) 0 0 ∷ get_or (stripe ++ stripe) 3 0 ∷ get_or (stripe ++ stripe) 2 0
    ∷ get_or (stripe ++ stripe) 5 0 ∷ get_or (stripe ++ stripe) 4 0 ∷ get_or (stripe ++ stripe) 7 0 ∷ get_or (stripe ++ stripe) 6 0 ∷ []))
    (zip2 mul (zip2 bit_and (zip2 bit_xor stripe keys) (replicate 8 4294967295)) (zip2 (λ a b. a / 2 ^ b) (zip2 bit_xor stripe keys) (replicate 8 32)))
    ≡ with_stripe secret sums bytes i k
unfolding with_stripe words
stripe_in_lanes secret sums bytes i k stripe keys p q =
    rw (p, q) (ap (zip2 add (zip2 add sums (swapped (words bytes i)))) (products_in_lanes (zip2 bit_xor (words bytes i) (words secret k)) refl))

pub with_stripe-length : (secret bytes : List ℕ) (i k : ℕ) (sums : List ℕ) → length sums ≡ 8 → length (with_stripe secret sums bytes i k) ≡ 8
unfolding with_stripe words
with_stripe-length secret bytes i k [] l = absurd (omega arith)
with_stripe-length secret bytes i k (a ∷ []) l = absurd (omega arith)
with_stripe-length secret bytes i k (a ∷ b ∷ []) l = absurd (omega arith)
with_stripe-length secret bytes i k (a ∷ b ∷ c ∷ []) l = absurd (omega arith)
with_stripe-length secret bytes i k (a ∷ b ∷ c ∷ d ∷ []) l = absurd (omega arith)
with_stripe-length secret bytes i k (a ∷ b ∷ c ∷ d ∷ e ∷ []) l = absurd (omega arith)
with_stripe-length secret bytes i k (a ∷ b ∷ c ∷ d ∷ e ∷ f ∷ []) l = absurd (omega arith)
with_stripe-length secret bytes i k (a ∷ b ∷ c ∷ d ∷ e ∷ f ∷ g ∷ []) l = absurd (omega arith)
with_stripe-length secret bytes i k (a ∷ b ∷ c ∷ d ∷ e ∷ f ∷ g ∷ h ∷ []) l = refl
with_stripe-length secret bytes i k (a ∷ b ∷ c ∷ d ∷ e ∷ f ∷ g ∷ h ∷ x ∷ xs) l = absurd (omega arith)

pub scrambled-length : (secret sums : List ℕ) → length sums ≡ 8 → length (scrambled secret sums) ≡ 8
unfolding scrambled words
scrambled-length secret [] l = absurd (omega arith)
scrambled-length secret (a ∷ []) l = absurd (omega arith)
scrambled-length secret (a ∷ b ∷ []) l = absurd (omega arith)
scrambled-length secret (a ∷ b ∷ c ∷ []) l = absurd (omega arith)
scrambled-length secret (a ∷ b ∷ c ∷ d ∷ []) l = absurd (omega arith)
scrambled-length secret (a ∷ b ∷ c ∷ d ∷ e ∷ []) l = absurd (omega arith)
scrambled-length secret (a ∷ b ∷ c ∷ d ∷ e ∷ f ∷ []) l = absurd (omega arith)
scrambled-length secret (a ∷ b ∷ c ∷ d ∷ e ∷ f ∷ g ∷ []) l = absurd (omega arith)
scrambled-length secret (a ∷ b ∷ c ∷ d ∷ e ∷ f ∷ g ∷ h ∷ []) l = refl
scrambled-length secret (a ∷ b ∷ c ∷ d ∷ e ∷ f ∷ g ∷ h ∷ x ∷ xs) l = absurd (omega arith)

pub scrambled_in_lanes : (secret sums keys : List ℕ) → length sums ≡ 8 → keys ≡ words secret 128
    → zip2 mul (zip2 bit_xor (zip2 bit_xor sums (zip2 (λ a b. a / 2 ^ b) sums (replicate 8 47))) keys) (replicate 8 0x9E3779B1) ≡ scrambled secret sums
unfolding scrambled words
scrambled_in_lanes secret [] keys l p = absurd (omega arith)
scrambled_in_lanes secret (a ∷ []) keys l p = absurd (omega arith)
scrambled_in_lanes secret (a ∷ b ∷ []) keys l p = absurd (omega arith)
scrambled_in_lanes secret (a ∷ b ∷ c ∷ []) keys l p = absurd (omega arith)
scrambled_in_lanes secret (a ∷ b ∷ c ∷ d ∷ []) keys l p = absurd (omega arith)
scrambled_in_lanes secret (a ∷ b ∷ c ∷ d ∷ e ∷ []) keys l p = absurd (omega arith)
scrambled_in_lanes secret (a ∷ b ∷ c ∷ d ∷ e ∷ f ∷ []) keys l p = absurd (omega arith)
scrambled_in_lanes secret (a ∷ b ∷ c ∷ d ∷ e ∷ f ∷ g ∷ []) keys l p = absurd (omega arith)
scrambled_in_lanes secret (a ∷ b ∷ c ∷ d ∷ e ∷ f ∷ g ∷ h ∷ []) keys l p = rw p refl
scrambled_in_lanes secret (a ∷ b ∷ c ∷ d ∷ e ∷ f ∷ g ∷ h ∷ x ∷ xs) keys l p = absurd (omega arith)
