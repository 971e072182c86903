use Rattle.std.proofs.Common.{arith, ◌≤◌}
use Rattle.sst_base.specs.VarintLaws.{varint_at_found, varint_at_none}
use Rattle.sst_base.proofs.coding.decode_varint.Goals as goal

pub returns-clause-length : goal.returns-clause-length
returns-clause-length c =
    let width : c.args.bits ≤ 64 = omega arith in
    (varint_at_found c.args.bits c.args.bytes.now _ (λ k. let h = c.type_inv.bytes k in omega arith) width c.decode_short.ensures).0

pub returns-clause-width : goal.returns-clause-width
returns-clause-width c =
    let width : c.args.bits ≤ 64 = omega arith in
    (varint_at_found c.args.bits c.args.bytes.now _ (λ k. let h = c.type_inv.bytes k in omega arith) width c.decode_short.ensures).1

pub returns-clause-found : goal.returns-clause-found
returns-clause-found c =
    let width : c.args.bits ≤ 64 = omega arith in
    (varint_at_found c.args.bits c.args.bytes.now _ (λ k. let h = c.type_inv.bytes k in omega arith) width c.decode_short.ensures).2

pub returns-clause-none : goal.returns-clause-none
returns-clause-none c = varint_at_none c.args.bits c.args.bytes.now _ c.decode_short.ensures
