use Rattle.std.proofs.Common.{◌≡◌, ◌+◌, ◌*◌, ◌≤◌, drop}
use Rattle.sst_base.specs.Varint.{with_digits, varint_up_to}
use Rattle.sst_base.proofs.coding.decode_digits.Given as goal

abbrev pub invariant-loop-i : goal.invariant-loop-i
invariant-loop-i l = record {
  so_far : with_digits l.i l.sum l.scale (varint_up_to l.room (drop l.i l.bytes)) ≡ varint_up_to l.max l.bytes;
  fits : l.sum + l.scale * l.room ≤ l.max;
}
