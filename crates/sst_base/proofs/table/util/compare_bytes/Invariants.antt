use Rattle.std.proofs.Common.{◌≡◌, ◌*◌, take}
use Rattle.sst_base.proofs.table.util.compare_bytes.Given as goal

abbrev pub invariant-loop-i : goal.invariant-loop-i
invariant-loop-i l = take (8 * l.i) l.a ≡ take (8 * l.i) l.b
