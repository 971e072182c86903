use Rattle.std.proofs.Common.{◌+◌, ◌*◌, ◌/◌, ◌%◌, arith}
use Rattle.xxh3.proofs.SameBytes.{stripes_joined}
use Rattle.xxh3.proofs.sums.with_whole.Goals as goal

pub returns-clause-value : goal.returns-clause-value
returns-clause-value c =
    let blocks = c.args.count / 16 in
    stripes_joined c.args.secret.now c.args.start c.args.bytes.now c.args.at 0 (16 * blocks) (c.args.at + 1024 * blocks) 0 (c.args.count % 16) c.args.count
    c.with_blocks-sums.result c.with_run.result c.with_blocks-sums.ensures.value c.with_run.ensures.value (omega arith) (omega arith) (omega arith)
