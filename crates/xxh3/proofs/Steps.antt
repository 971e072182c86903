-- One step more of each sum, as a loop counts.
use Rattle.std.proofs.Common.{◌≡◌, ℕ, ◌+◌, ◌-◌, ◌*◌, ◌%◌, ◌<◌, List, length, false, refl, sym, ap, ◌∙◌, eqb, arith, add-one}
use Rattle.std.specs.Prelude.{◌==◌, if◌then◌else◌}
use Rattle.std.proofs.lemmas.Bool.{ne_eqb}
use Rattle.xxh3.specs.declared.words.Halves.{Halves}
use Rattle.xxh3.specs.Xxh3.{add, mixed, ends_sum, run_sum, run_sums, ends_sums, with_both, with_stripe, with_stripes, scrambled}

pub ends_sum-one : (secret bytes : List ℕ) (n : ℕ)
    → ends_sum secret bytes (n + 1) ≡ add (add (ends_sum secret bytes n) (mixed secret bytes (16 * n) (32 * n))) (mixed secret bytes (length bytes - 16 * (n + 1)) (32 * n + 16))
unfolding ends_sum
ends_sum-one secret bytes n = ap (ends_sum secret bytes) (add-one n)

pub run_sum-one : (secret bytes : List ℕ) (sum i k n : ℕ)
    → run_sum secret bytes sum i k (n + 1) ≡ add (run_sum secret bytes sum i k n) (mixed secret bytes (i + 16 * n) (k + 16 * n))
unfolding run_sum
run_sum-one secret bytes sum i k n = rw add-one refl

pub run_sums-one : (secret bytes : List ℕ) (sums : Halves) (i k n : ℕ)
    → run_sums secret bytes sums i k (n + 1) ≡ with_both secret bytes (run_sums secret bytes sums i k n) (i + 32 * n) (i + 32 * n + 16) (k + 32 * n)
unfolding run_sums
run_sums-one secret bytes sums i k n = rw add-one refl

pub ends_sums-one : (secret bytes : List ℕ) (sums : Halves) (n : ℕ)
    → ends_sums secret bytes sums (n + 1) ≡ ends_sums secret bytes (with_both secret bytes sums (16 * n) (length bytes - 16 * (n + 1)) (32 * n)) n
unfolding ends_sums
ends_sums-one secret bytes sums n = ap (ends_sums secret bytes sums) (add-one n)

-- the sums after the stripe t of its block
abbrev pub closed : List ℕ → List ℕ → ℕ → List ℕ
closed secret sums t = if t % 16 == 15 then scrambled secret sums else sums

pub with_stripes-one : (secret sums bytes : List ℕ) (i t n : ℕ)
    → with_stripes secret sums bytes i t (n + 1) ≡ closed secret (with_stripe secret (with_stripes secret sums bytes i t n) bytes (i + 64 * n) (8 * ((t + n) % 16))) (t + n)
unfolding with_stripes
with_stripes-one secret sums bytes i t n = rw add-one refl

pub ruleset ends_steps = (ends_sum-one)

pub ruleset run_steps = (run_sum-one)

pub ruleset runs_steps = (run_sums-one)

pub ruleset both_steps = (ends_sums-one)

-- a stripe that is not the last of its block
pub with_stripes-within : (secret sums bytes : List ℕ) (i t n : ℕ) → t + n < 15
    → with_stripes secret sums bytes i t (n + 1) ≡ with_stripe secret (with_stripes secret sums bytes i t n) bytes (i + 64 * n) (8 * (t + n))
with_stripes-within secret sums bytes i t n inside =
    let place : (t + n) % 16 ≡ t + n = omega arith in
    let open_still : eqb (t + n) 15 ≡ false = ne_eqb (t + n) 15 (λ e. absurd (omega (arith, e, inside))) in
    rw (place, open_still) at (with_stripes-one secret sums bytes i t n)

-- the last stripe of a block
pub with_stripes-closing : (secret sums bytes : List ℕ) (i t n : ℕ) → t + n ≡ 15
    → with_stripes secret sums bytes i t (n + 1) ≡ scrambled secret (with_stripe secret (with_stripes secret sums bytes i t n) bytes (i + 64 * n) 120)
with_stripes-closing secret sums bytes i t n e = rw e at (with_stripes-one secret sums bytes i t n)

pub block_closes : (secret start bytes : List ℕ) (i t : ℕ) → t < 16 → (sums last result : List ℕ) → sums ≡ with_stripes secret start bytes i t (15 - t)
    → last ≡ with_stripe secret sums bytes (i + 64 * (15 - t)) 120 → result ≡ scrambled secret last → result ≡ with_stripes secret start bytes i t (16 - t)
block_closes secret start bytes i t inside sums last result e f g =
    let n = 15 - t in
    let all : n + 1 ≡ 16 - t = omega arith in
    g ∙ ap (scrambled secret) (f ∙ ap (λ (w : List ℕ). with_stripe secret w bytes (i + 64 * n) 120) e)
    ∙ sym (with_stripes-closing secret start bytes i t n (omega arith)) ∙ ap (with_stripes secret start bytes i t) all

pub ruleset stripe_steps = (with_stripes-within)
