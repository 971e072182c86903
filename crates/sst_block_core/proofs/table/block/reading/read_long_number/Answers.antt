use Rattle.std.proofs.Common.{rules, ◌+◌, ◌<◌, arith}
use Rattle.sst_block_core.proofs.Places.EncodedNumbers.{next_inside, last_digit, last_fits, next_read, next_fits, width_most}
use Rattle.sst_block_core.proofs.table.block.reading.read_long_number.Goals as goal

pub digits-init : goal.digits-init
digits-init c = record {
  read = c.requires.low;
  inside = next_inside c.args.bits c.args.at c.args.payload.now c.requires.encoded 3 c.args.low 2097152 c.requires.low;
}

pub overflow_mul-result : goal.overflow_mul-result
overflow_mul-result c =
    let f = last_fits c.args.bits c.args.at c.args.payload.now c.requires.encoded c.digits.len c.digits.sum c.digits.scale c.digits.invariant.read c.from-byte.result _ c.from-byte.ensures c.if-byte-lt128.true in
    let w = width_most c.args.bits c.requires.width in
    search (rules, arith)

pub overflow_add-result : goal.overflow_add-result
overflow_add-result c =
    let f = last_fits c.args.bits c.args.at c.args.payload.now c.requires.encoded c.digits.len c.digits.sum c.digits.scale c.digits.invariant.read c.from-byte.result _ c.from-byte.ensures c.if-byte-lt128.true in
    let w = width_most c.args.bits c.requires.width in
    search (rules, arith)

pub returns-then-byte-lt128-clause-exact : goal.returns-then-byte-lt128-clause-exact
returns-then-byte-lt128-clause-exact c =
    last_digit c.args.bits c.args.at c.args.payload.now c.requires.encoded c.digits.len c.digits.sum c.digits.scale c.digits.invariant.read c.from-byte.result _ c.from-byte.ensures _ (omega arith) c.if-byte-lt128.true

pub returns-then-byte-lt128-clause-bound : goal.returns-then-byte-lt128-clause-bound
returns-then-byte-lt128-clause-bound c =
    last_fits c.args.bits c.args.at c.args.payload.now c.requires.encoded c.digits.len c.digits.sum c.digits.scale c.digits.invariant.read c.from-byte.result _ c.from-byte.ensures c.if-byte-lt128.true

pub overflow_mul-sum : goal.overflow_mul-sum
overflow_mul-sum c =
    let byte : c.from-byte.result < 256 = let h = c.type_inv.payload (c.args.at + c.digits.len) in omega (arith, c.from-byte.ensures) in
    let f = next_fits c.args.bits c.args.at c.args.payload.now c.requires.encoded c.digits.len c.digits.sum c.digits.scale c.digits.invariant.read c.from-byte.result _ c.from-byte.ensures c.if-byte-lt128.false byte in
    let w = width_most c.args.bits c.requires.width in
    search (rules, arith, f.0)

pub overflow_add-sum : goal.overflow_add-sum
overflow_add-sum c =
    let byte : c.from-byte.result < 256 = let h = c.type_inv.payload (c.args.at + c.digits.len) in omega (arith, c.from-byte.ensures) in
    let f = next_fits c.args.bits c.args.at c.args.payload.now c.requires.encoded c.digits.len c.digits.sum c.digits.scale c.digits.invariant.read c.from-byte.result _ c.from-byte.ensures c.if-byte-lt128.false byte in
    let w = width_most c.args.bits c.requires.width in
    search (rules, arith, f.0)

pub overflow_mul-scale : goal.overflow_mul-scale
overflow_mul-scale c =
    let byte : c.from-byte.result < 256 = let h = c.type_inv.payload (c.args.at + c.digits.len) in omega (arith, c.from-byte.ensures) in
    let f = next_fits c.args.bits c.args.at c.args.payload.now c.requires.encoded c.digits.len c.digits.sum c.digits.scale c.digits.invariant.read c.from-byte.result _ c.from-byte.ensures c.if-byte-lt128.false byte in
    let w = width_most c.args.bits c.requires.width in
    search (rules, arith, f.1)

pub digits-preserved : goal.digits-preserved
digits-preserved c =
    let byte : c.from-byte.result < 256 = let h = c.type_inv.payload (c.args.at + c.digits.len) in omega (arith, c.from-byte.ensures) in
    let more = next_read c.args.bits c.args.at c.args.payload.now c.requires.encoded c.digits.len c.digits.sum c.digits.scale c.digits.invariant.read c.from-byte.result _ c.from-byte.ensures c.if-byte-lt128.false byte in
    record {
      read = more;
      inside = next_inside c.args.bits c.args.at c.args.payload.now c.requires.encoded (c.digits.len + 1) _ _ more;
    }
