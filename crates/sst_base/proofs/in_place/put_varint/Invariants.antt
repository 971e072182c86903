use Rattle.std.proofs.Common.{◌≡◌, ◌+◌, ◌-◌, ◌*◌, ◌^◌, ◌<◌, ◌++◌, take}
use Rattle.sst_base.specs.Varint.{varint_within}
use Rattle.sst_base.proofs.in_place.put_varint.Given as goal

abbrev pub invariant-loop-i : goal.invariant-loop-i
invariant-loop-i l = record {
  room : l.rest < 2 ^ (64 - 7 * l.i);
  so_far : take l.end l.form ++ varint_within (9 - l.i) l.rest ≡ take l.at l.fn.form ++ varint_within 9 l.n;
  len : l.end ≡ l.at + l.i;
}
