-- From probe to probe.
use Rattle.std.proofs.Common.{◌≡◌, ℕ, ◌+◌, ◌*◌, ◌%◌, ◌^◌, ◌⊎◌, inl, inr, refl, sym, ap, ◌∙◌, arith, add-one}
use Rattle.std.specs.Prelude.{◌↔◌}
use Rattle.std.proofs.Math.Nat.{add-mod}
use Rattle.std.proofs.lemmas.Nat.{mul-mod_first}
use Rattle.std.proofs.lemmas.Bool.{cases_lt}
use Rattle.sstable_blocks.specs.Probes.{factorial, factorial_sum, secondary_hash, probe, IsProbe}

-- first and second hash at probe i
pub record IsAt (hash i x y : ℕ) : Type 0 where
  pub first : x ≡ (hash + secondary_hash hash * factorial_sum i) % 2 ^ 64
  pub second : y ≡ (secondary_hash hash * factorial i) % 2 ^ 64

-- the first number of the next probe
first_more : (hash y i first second next : ℕ) → first ≡ (hash + y * factorial_sum i) % 2 ^ 64 → second ≡ (y * factorial i) % 2 ^ 64
    → next ≡ (first + second) % 2 ^ 64 → next ≡ (hash + y * factorial_sum (i + 1)) % 2 ^ 64
first_more hash y i first second next e f n =
    let sum : (hash + y * factorial_sum i) + y * factorial i ≡ hash + y * factorial_sum (i + 1) = rw add-one (omega arith) in
    n ∙ ap (λ k. (k + second) % 2 ^ 64) e ∙ ap (λ k. ((hash + y * factorial_sum i) % 2 ^ 64 + k) % 2 ^ 64) f
    ∙ sym (add-mod (hash + y * factorial_sum i) (y * factorial i) (2 ^ 64))
    ∙ ap (λ k. k % 2 ^ 64) sum

-- its second number
second_more : (y i second next : ℕ) → second ≡ (y * factorial i) % 2 ^ 64 → next ≡ (second * (i + 1)) % 2 ^ 64 → next ≡ (y * factorial (i + 1)) % 2 ^ 64
second_more y i second next f n =
    let product : (y * factorial i) * (i + 1) ≡ y * factorial (i + 1) = rw add-one (omega arith) in
    n ∙ ap (λ k. (k * (i + 1)) % 2 ^ 64) f ∙ mul-mod_first (y * factorial i) (i + 1) (2 ^ 64) ∙ ap (λ k. k % 2 ^ 64) product

pub next_at : (hash i first second : ℕ) → IsAt hash i first second → IsAt hash (i + 1) ((first + second) % 2 ^ 64) ((second * (i + 1)) % 2 ^ 64)
next_at hash i first second at = record {
  first = first_more hash (secondary_hash hash) i first second _ at.first at.second refl;
  second = second_more (secondary_hash hash) i second _ at.second refl;
}

pub probe_at : (m hash i first second : ℕ) → IsAt hash i first second → first % m ≡ probe m hash i
probe_at m hash i first second at = ap (λ n. n % m) at.first

-- a probe below i + 1 is one below i, or probe i
pub probe_below : (m hash i b : ℕ) → IsProbe m (i + 1) hash b → IsProbe m i hash b ⊎ (b ≡ probe m hash i)
probe_below m hash i b (j, h, e) = elim (cases_lt j i) [
  | inl less ↦ inl (j, less, e)
  | inr more ↦ (let same : j ≡ i = omega arith in inr (e ∙ ap (probe m hash) same))
]

-- one probe more
pub probes_more : (Old Mid New : Type 0) (m hash i b bit : ℕ) → bit ≡ probe m hash i → (New ↔ (Mid ⊎ (b ≡ bit))) → (Mid ↔ (Old ⊎ IsProbe m i hash b))
    → New ↔ (Old ⊎ IsProbe m (i + 1) hash b)
probes_more Old Mid New m hash i b bit e f g = (
  (λ n. elim (f.0 n) [
    | inl mid ↦ elim (g.0 mid) [ inl old ↦ inl old | inr p ↦ inr (p.0, omega (arith, p.1), p.2) ]
    | inr is ↦ inr (i, omega arith, is ∙ e)
  ]),
  (λ o. elim o [
    | inl old ↦ f.1 (inl (g.1 (inl old)))
    | inr p ↦ elim (probe_below m hash i b p) [ inl q ↦ f.1 (inl (g.1 (inr q))) | inr is ↦ f.1 (inr (is ∙ sym e)) ]
  ]),
)
