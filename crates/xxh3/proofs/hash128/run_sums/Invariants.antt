use Rattle.std.proofs.Common.{◌≡◌}
use Rattle.xxh3.specs.Xxh3.{run_sums}
use Rattle.xxh3.proofs.hash128.run_sums.Given as goal

abbrev pub invariant-run : goal.invariant-run
invariant-run l = l.sums ≡ run_sums l.secret l.bytes l.fn.start l.at l.key_at l.i
