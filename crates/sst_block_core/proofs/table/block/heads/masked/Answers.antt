use Rattle.std.proofs.Common.{◌≡◌, ℕ, zero, suc, ◌+◌, ◌-◌, ◌*◌, ◌%◌, ◌^◌, ◌<◌, ◌≤◌, arith}
use Rattle.std.specs.Int.Bits.{bit_and, and_zero_r}
use Rattle.std.proofs.lemmas.Nat.{and_mask}
use Rattle.sst_block_core.proofs.table.block.heads.masked.Goals as goal

-- all bits set, or none
mask : (n bit : ℕ) → bit ≤ 1 → n < 2 ^ 64 → bit_and n ((0 + (18446744073709551616 - bit)) % 18446744073709551616) ≡ n * bit
mask n zero h k = let none = and_zero_r n in omega (arith, none)
mask n (suc zero) h k = let all = and_mask n 64 in omega (arith, all)
mask n (suc (suc bit)) h k = absurd (omega arith)

pub returns : goal.returns
returns c = mask c.args.number c.args.bit c.requires (let r = c.ranges.number in omega (arith, r))
