use Rattle.std.proofs.Common.{◌≡◌, ◌*◌, length}
use Rattle.xxh3.specs.Xxh3.{with_stripes}
use Rattle.xxh3.proofs.sums.with_blocks.Given as goal

abbrev pub invariant-each : goal.invariant-each
invariant-each l = record { sums : l.sums ≡ with_stripes l.secret l.fn.start l.bytes l.at 0 (16 * l.i); eight : length l.sums ≡ 8 }
