use Rattle.std.proofs.Common.{arith}
use Rattle.sst_block_core.proofs.Check.KeyOrders.{prefixes_decide, same_prefixes, left_shorter, right_shorter}
use Rattle.sst_block_core.proofs.table.block.check.keys.compare_apart.Goals as goal

pub returns-in-Equal : goal.returns-in-Equal
returns-in-Equal c =
    same_prefixes c.args.payload.now c.args.a c.args.b c.requires.left.prefix c.requires.right.prefix c.compare_prefixes.result c.compare_bytes.result
    c.bytes_of-left_rest.result.now c.bytes_of-right_rest.result.now c.if-left-right.true c.compare_prefixes.ensures c.in-Equal.is
    c.bytes_of-left_rest.ensures c.bytes_of-right_rest.ensures c.compare_bytes.ensures

pub returns-in_default : goal.returns-in_default
returns-in_default c =
    prefixes_decide c.args.payload.now c.args.a c.args.b c.requires.left.prefix c.requires.right.prefix _ c.compare_prefixes.result (omega arith) (omega arith) c.compare_prefixes.ensures c.in_default.not-Equal

pub returns-in-Equal-compare_prefixes : goal.returns-in-Equal-compare_prefixes
returns-in-Equal-compare_prefixes c =
    left_shorter c.args.payload.now c.args.a c.args.b c.requires.left.prefix c.requires.right.prefix c.compare_prefixes-then-left-right-2.result c.compare_prefixed_slice.result c.reverse.result
    c.bytes_of-more.result.now c.bytes_of-left_rest.result.now c.bytes_of-right_rest.result.now (omega arith) c.compare_prefixes-then-left-right-2.ensures c.in-Equal-compare_prefixes.is
    c.bytes_of-more.ensures c.bytes_of-left_rest.ensures c.bytes_of-right_rest.ensures c.compare_prefixed_slice.ensures c.reverse.ensures

pub returns-in_default-compare_prefixes : goal.returns-in_default-compare_prefixes
returns-in_default-compare_prefixes c =
    prefixes_decide c.args.payload.now c.args.a c.args.b c.requires.left.prefix c.requires.right.prefix _ c.compare_prefixes-then-left-right-2.result (omega arith) (omega arith)
    c.compare_prefixes-then-left-right-2.ensures c.in_default-compare_prefixes.not-Equal

pub returns-in-Equal-compare_prefixes-2 : goal.returns-in-Equal-compare_prefixes-2
returns-in-Equal-compare_prefixes-2 c =
    right_shorter c.args.payload.now c.args.a c.args.b c.requires.left.prefix c.requires.right.prefix c.compare_prefixes-else-left-right-2.result c.compare_prefixed_slice-in-Equal-compare_prefixes-2.result
    c.bytes_of-more-in-Equal-compare_prefixes-2.result.now c.bytes_of-left_rest.result.now c.bytes_of-right_rest.result.now (omega arith) c.compare_prefixes-else-left-right-2.ensures c.in-Equal-compare_prefixes-2.is
    c.bytes_of-more-in-Equal-compare_prefixes-2.ensures c.bytes_of-left_rest.ensures c.bytes_of-right_rest.ensures c.compare_prefixed_slice-in-Equal-compare_prefixes-2.ensures

pub returns-in_default-compare_prefixes-2 : goal.returns-in_default-compare_prefixes-2
returns-in_default-compare_prefixes-2 c =
    prefixes_decide c.args.payload.now c.args.a c.args.b c.requires.left.prefix c.requires.right.prefix _ c.compare_prefixes-else-left-right-2.result (omega arith) (omega arith)
    c.compare_prefixes-else-left-right-2.ensures c.in_default-compare_prefixes-2.not-Equal
