use Rattle.std.proofs.Common.{◌+◌, ◌-◌, ◌*◌, arith, refl}
use Rattle.xxh3.proofs.SameBytes.{stripes_joined}
use Rattle.xxh3.proofs.sums.with_stripes.Goals as goal

pub returns-clause-value : goal.returns-clause-value
returns-clause-value c =
    let rest = 16 - c.args.first in
    let inside = c.requires.in_block in
    stripes_joined c.args.secret.now c.args.start c.args.bytes.now c.args.at c.args.first rest (c.args.at + 64 * rest) 0 (c.args.count - rest) c.args.count
    c.with_block-sums.result c.with_whole.result c.with_block-sums.ensures.value c.with_whole.ensures.value refl (omega arith) (omega (arith, c.if-count-rest.false))
