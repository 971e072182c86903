use Rattle.std.proofs.Common.{◌≡◌, ◌*◌, take}
use Rattle.sst_base.specs.Hashes.{poly31_from}
use Rattle.sst_base.proofs.hash.continued128_by_sixteen.Given as goal

abbrev pub invariant-loop-i : goal.invariant-loop-i
invariant-loop-i l = l.hash ≡ poly31_from 128 l.so_far (take (16 * l.i) l.bytes)
