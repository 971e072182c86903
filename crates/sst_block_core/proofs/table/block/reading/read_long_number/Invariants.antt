use Rattle.std.proofs.Common.{◌+◌, ◌-◌, ◌<◌, length, drop}
use Rattle.sst_block_core.specs.Digits.{IsReadTo}
use Rattle.sst_block_core.proofs.table.block.reading.read_long_number.Given as goal

abbrev pub invariant-digits : goal.invariant-digits
invariant-digits l = record {
  read : IsReadTo l.bits (drop l.at l.payload) l.len l.sum l.scale;
  inside : l.at + l.len < length l.payload;
}

abbrev pub decreases-digits : goal.decreases-digits
decreases-digits l = length l.payload - (l.at + l.len)
