use Rattle.std.proofs.Common.{rules, arith, drop}
use Rattle.sst_block_core.proofs.Places.EncodedNumbers.{length_first, length_range}
use Rattle.sst_block_core.proofs.table.block.reading.read_length_prefixed.Goals as goal

pub read_number-len-requires-clause-encoded : goal.read_number-len-requires-clause-encoded
read_number-len-requires-clause-encoded c = length_first c.args.bits (drop c.args.at c.args.payload.now) c.requires.encoded

pub overflow_add-end : goal.overflow_add-end
overflow_add-end c =
    let e = c.read_number-len.ensures.exact in
    let t = length_range c.args.bits c.args.payload.now (drop c.args.at c.args.payload.now) c.read_number-len.result.0 c.read_number-len.result.1 e.0 e.1 c.requires.encoded in
    search (rules, t.0)

pub returns-clause-exact : goal.returns-clause-exact
returns-clause-exact c =
    let e = c.read_number-len.ensures.exact in
    length_range c.args.bits c.args.payload.now (drop c.args.at c.args.payload.now) c.read_number-len.result.0 c.read_number-len.result.1 e.0 e.1 c.requires.encoded

pub returns-clause-range : goal.returns-clause-range
returns-clause-range c =
    let e = c.read_number-len.ensures.exact in
    let t = length_range c.args.bits c.args.payload.now (drop c.args.at c.args.payload.now) c.read_number-len.result.0 c.read_number-len.result.1 e.0 e.1 c.requires.encoded in
    record { order = omega arith; inside = t.0 }
