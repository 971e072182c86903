-- The numbers of a filter.
use Rattle.std.proofs.Common.{◌≤◌, ℕ, ◌+◌, ◌*◌, ◌/◌, max, suc, zero, arith}

-- there are at most as many probes as bits
pub probes_below_bits : (n bpk : ℕ) → 1 ≤ n → 1 ≤ bpk → max (bpk * 693147 / 1000000) 1 ≤ (n * bpk + 7) / 8 * 8
probes_below_bits zero bpk some active = absurd (omega arith)
probes_below_bits (suc n) bpk some active = omega arith
