use Rattle.std.proofs.Common.{◌≡◌, ◌*◌, take}
use Rattle.sst_base.proofs.table.util.longest_shared_prefix_length.Given as goal

abbrev pub invariant-loop-i : goal.invariant-loop-i
invariant-loop-i l = take (8 * l.i) l.a ≡ take (8 * l.i) l.b
