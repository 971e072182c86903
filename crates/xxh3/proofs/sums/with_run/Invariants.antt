use Rattle.std.proofs.Common.{◌≡◌, length}
use Rattle.xxh3.specs.Xxh3.{with_stripes}
use Rattle.xxh3.proofs.sums.with_run.Given as goal

abbrev pub invariant-run : goal.invariant-run
invariant-run l = record { sums : l.sums ≡ with_stripes l.secret l.fn.start l.bytes l.at l.first l.i; eight : length l.sums ≡ 8 }
