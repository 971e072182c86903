use Rattle.std.proofs.Common.{◌≡◌}
use Rattle.xxh3.specs.Xxh3.{run_sum}
use Rattle.xxh3.proofs.hash64.run_sum.Given as goal

abbrev pub invariant-run : goal.invariant-run
invariant-run l = l.sum ≡ run_sum l.secret l.bytes l.fn.start l.at l.key_at l.i
