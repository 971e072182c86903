use Rattle.std.proofs.Common.{◌≡◌, ◌+◌, drop}
use Rattle.sst_base.specs.SharedPrefix.{shared_prefix_length}
use Rattle.sst_base.proofs.table.util.shared_bytes.Given as goal

abbrev pub invariant-loop-i : goal.invariant-loop-i
invariant-loop-i l = l.i + shared_prefix_length (drop l.i l.a) (drop l.i l.b) ≡ shared_prefix_length l.a l.b
