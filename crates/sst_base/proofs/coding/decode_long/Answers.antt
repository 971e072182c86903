use Rattle.std.proofs.Common.{◌≡◌, ℕ, ◌≤◌, Option, Some, arith, rules}
use Rattle.sst_base.specs.Varint.{varint_at}
use Rattle.sst_base.proofs.Framing.ShortVarints.{takes_some}
use Rattle.sst_base.proofs.coding.decode_long.Goals as goal

pub returns-in-Some-clause-none : goal.returns-in-Some-clause-none
unfolding varint_at
returns-in-Some-clause-none c = λ z.
    let width : c.args.bits ≤ 64 = omega arith in
    let e : ◌≡◌ {A = Option (ℕ × ℕ)} (Some c.in-Some.found) (varint_at c.args.bits c.args.bytes.now) = search rules in
    absurd (takes_some c.args.bits c.args.bytes.now c.in-Some.found.0 c.in-Some.found.1 (λ k. let h = c.type_inv.bytes k in omega arith) width e z)
