use Rattle.std.proofs.Common.{arith}
use Rattle.sst_base.proofs.Framing.ShortVarints.{one_byte, two_bytes, three_bytes, four_bytes}
use Rattle.sst_base.proofs.coding.decode_short.Goals as goal

pub returns-in-len4-up : goal.returns-in-len4-up
returns-in-len4-up c =
    one_byte c.args.bits c.args.bytes.now _ c.requires (let l = c.in-len4-up.len_at_least in omega (arith, l)) c.if-a-lt128.true c.from.ensures

pub returns-in-len4-up-2 : goal.returns-in-len4-up-2
returns-in-len4-up-2 c =
    two_bytes c.args.bits c.args.bytes.now _ _ c.requires (λ i. let h = c.type_inv.bytes i in omega arith) (let l = c.in-len4-up.len_at_least in omega (arith, l))
    c.if-a-ge128.true c.if-b-gt0.true c.if-b-lt128.true c.from-in-len4-up-2.ensures c.from-in-len4-up-2-2.ensures

pub returns-in-len4-up-3 : goal.returns-in-len4-up-3
returns-in-len4-up-3 c =
    three_bytes c.args.bits c.args.bytes.now _ _ _ c.requires c.if-bits-gt16.true (λ i. let h = c.type_inv.bytes i in omega arith) (let l = c.in-len4-up.len_at_least in omega (arith, l))
    c.if-a-ge128-2.true c.if-b-ge128.true c.if-c-gt0.true c.if-c-lt128.true
    c.from-in-len4-up-3.ensures c.from-in-len4-up-3-2.ensures c.from-in-len4-up-3-3.ensures

pub returns-in-len4-up-4 : goal.returns-in-len4-up-4
returns-in-len4-up-4 c =
    four_bytes c.args.bits c.args.bytes.now _ _ _ _ c.requires c.if-bits-gt16-2.true (λ i. let h = c.type_inv.bytes i in omega arith) (let l = c.in-len4-up.len_at_least in omega (arith, l))
    c.if-a-ge128-3.true c.if-b-ge128-2.true c.if-c-ge128.true c.if-d-gt0.true c.if-d-lt128.true
    c.from-in-len4-up-4.ensures c.from-in-len4-up-4-2.ensures c.from-in-len4-up-4-3.ensures c.from-in-len4-up-4-4.ensures
