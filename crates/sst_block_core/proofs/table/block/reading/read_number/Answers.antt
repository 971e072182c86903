use Rattle.std.proofs.Common.{arith}
use Rattle.sst_block_core.proofs.Places.EncodedNumbers.{one_digit, first_read, next_inside, last_digit, last_fits, next_read}
use Rattle.sst_block_core.proofs.table.block.reading.read_number.Goals as goal

pub returns-then-first-lt128-clause-exact : goal.returns-then-first-lt128-clause-exact
returns-then-first-lt128-clause-exact c = one_digit c.args.bits c.args.at c.args.payload.now c.requires.encoded c.requires.width c.from-first.result _ c.from-first.ensures c.if-first-lt128.true

pub bounds-payload-at-2 : goal.bounds-payload-at-2
bounds-payload-at-2 c =
    let one = first_read c.args.bits c.args.at c.args.payload.now c.requires.encoded c.requires.width c.from-first.result _ c.from-first.ensures c.if-first-lt128.false (omega arith) in
    next_inside c.args.bits c.args.at c.args.payload.now c.requires.encoded 1 _ _ one

pub returns-then-second-lt128-clause-exact : goal.returns-then-second-lt128-clause-exact
returns-then-second-lt128-clause-exact c =
    let one = first_read c.args.bits c.args.at c.args.payload.now c.requires.encoded c.requires.width c.from-first.result _ c.from-first.ensures c.if-first-lt128.false (omega arith) in
    last_digit c.args.bits c.args.at c.args.payload.now c.requires.encoded 1 _ _ one c.from-second.result _ c.from-second.ensures _ (omega arith) c.if-second-lt128.true

pub bounds-payload-at-3 : goal.bounds-payload-at-3
bounds-payload-at-3 c =
    let one = first_read c.args.bits c.args.at c.args.payload.now c.requires.encoded c.requires.width c.from-first.result _ c.from-first.ensures c.if-first-lt128.false (omega arith) in
    let two = next_read c.args.bits c.args.at c.args.payload.now c.requires.encoded 1 _ _ one c.from-second.result _ c.from-second.ensures c.if-second-lt128.false (omega arith) in
    next_inside c.args.bits c.args.at c.args.payload.now c.requires.encoded 2 _ _ two

pub returns-then-third-lt128-clause-exact : goal.returns-then-third-lt128-clause-exact
returns-then-third-lt128-clause-exact c =
    let one = first_read c.args.bits c.args.at c.args.payload.now c.requires.encoded c.requires.width c.from-first.result _ c.from-first.ensures c.if-first-lt128.false (omega arith) in
    let two = next_read c.args.bits c.args.at c.args.payload.now c.requires.encoded 1 _ _ one c.from-second.result _ c.from-second.ensures c.if-second-lt128.false (omega arith) in
    last_digit c.args.bits c.args.at c.args.payload.now c.requires.encoded 2 _ _ two c.from-third.result _ c.from-third.ensures _ (omega arith) c.if-third-lt128.true

pub returns-then-third-lt128-clause-bound : goal.returns-then-third-lt128-clause-bound
returns-then-third-lt128-clause-bound c =
    let one = first_read c.args.bits c.args.at c.args.payload.now c.requires.encoded c.requires.width c.from-first.result _ c.from-first.ensures c.if-first-lt128.false (omega arith) in
    let two = next_read c.args.bits c.args.at c.args.payload.now c.requires.encoded 1 _ _ one c.from-second.result _ c.from-second.ensures c.if-second-lt128.false (omega arith) in
    last_fits c.args.bits c.args.at c.args.payload.now c.requires.encoded 2 _ _ two c.from-third.result _ c.from-third.ensures c.if-third-lt128.true

pub read_long_number-requires-clause-low : goal.read_long_number-requires-clause-low
read_long_number-requires-clause-low c =
    let one = first_read c.args.bits c.args.at c.args.payload.now c.requires.encoded c.requires.width c.from-first.result _ c.from-first.ensures c.if-first-lt128.false (omega arith) in
    let two = next_read c.args.bits c.args.at c.args.payload.now c.requires.encoded 1 _ _ one c.from-second.result _ c.from-second.ensures c.if-second-lt128.false (omega arith) in
    next_read c.args.bits c.args.at c.args.payload.now c.requires.encoded 2 _ _ two c.from-third.result _ c.from-third.ensures c.if-third-lt128.false (omega arith)
