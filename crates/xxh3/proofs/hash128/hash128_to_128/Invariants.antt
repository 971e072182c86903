use Rattle.std.proofs.Common.{◌≡◌, ◌+◌, ◌-◌, ◌/◌, length}
use Rattle.xxh3.specs.Xxh3.{ends_sums, halves, length_sum}
use Rattle.xxh3.proofs.hash128.hash128_to_128.Given as goal

abbrev pub invariant-ends : goal.invariant-ends
invariant-ends l =
    ends_sums l.secret l.bytes l.sums l.i ≡ ends_sums l.secret l.bytes (halves (length_sum l.bytes) 0) ((length l.bytes - 1) / 32 + 1)
