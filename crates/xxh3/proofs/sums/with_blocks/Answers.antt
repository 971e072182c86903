use Rattle.std.proofs.Common.{◌+◌, ◌*◌, arith}
use Rattle.xxh3.proofs.SameBytes.{stripes_joined}
use Rattle.xxh3.proofs.sums.with_blocks.Goals as goal

pub each-preserved : goal.each-preserved
each-preserved c =
    let at = c.args.at in
    let i = c.each.i in
    record {
      sums =
          stripes_joined c.args.secret.now c.args.start c.args.bytes.now at 0 (16 * i) (at + 1024 * i) 0 16 (16 * (i + 1)) c.each.sums c.with_block-sums.result
          c.each.invariant.sums c.with_block-sums.ensures.value (omega arith) (omega arith) (omega arith);
      eight = c.with_block-sums.ensures.eight;
    }
