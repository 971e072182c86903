use Rattle.std.proofs.Common.{◌≡◌, ◌*◌, take}
use Rattle.sst_base.specs.Hashes.{poly31_from}
use Rattle.sst_base.proofs.hash.continued64_by_eight.Given as goal

abbrev pub invariant-loop-i : goal.invariant-loop-i
invariant-loop-i l = l.hash ≡ poly31_from 64 l.so_far (take (8 * l.i) l.bytes)
