use Rattle.std.proofs.Common.{◌≡◌}
use Rattle.xxh3.specs.Xxh3.{ends_sum}
use Rattle.xxh3.proofs.hash64.hash64_to_128.Given as goal

abbrev pub invariant-ends : goal.invariant-ends
invariant-ends l = l.sum ≡ ends_sum l.secret l.bytes l.i
