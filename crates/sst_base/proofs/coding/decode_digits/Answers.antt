use Rattle.std.proofs.Common.{arith, ◌<◌}
use Rattle.sst_base.specs.VarintLaws.{digits_end, digits_last, digits_zero, digits_wide, digits_full, digits_more, less_left}
use Rattle.sst_base.proofs.coding.decode_digits.Goals as goal
use Rattle.sst_base.proofs.coding.decode_digits.Goals.{then-byte-eq0-via-then-byte-eq0, then-byte-eq0-via-else-byte-eq0+then-room-byte}

pub returns-then-byte-eq0 : goal.returns-then-byte-eq0
returns-then-byte-eq0 c = elim c.then-byte-eq0.branch [
  | then-byte-eq0-via-then-byte-eq0 w ↦ digits_zero c.args.bytes.now c.loop-i.i c.loop-i.sum c.loop-i.scale c.loop-i.room _ c.loop-i.invariant.so_far c.from-byte.result c.loop-i-test.true c.from-byte.ensures w.if-byte-eq0.true
  | then-byte-eq0-via-else-byte-eq0+then-room-byte w ↦ digits_wide c.args.bytes.now c.loop-i.i c.loop-i.sum c.loop-i.scale c.loop-i.room _ c.loop-i.invariant.so_far c.from-byte.result c.loop-i-test.true c.from-byte.ensures c.if-byte-lt128.true w.if-room-byte.true
]

pub returns-then-byte-lt128 : goal.returns-then-byte-lt128
returns-then-byte-lt128 c = digits_last c.args.bytes.now c.loop-i.i c.loop-i.sum c.loop-i.scale c.loop-i.room _ c.loop-i.invariant.so_far c.from-byte.result c.loop-i-test.true c.from-byte.ensures c.if-byte-lt128.true (omega arith) c.if-room-byte.false

pub returns-then-room-lt128 : goal.returns-then-room-lt128
returns-then-room-lt128 c = digits_full c.args.bytes.now c.loop-i.i c.loop-i.sum c.loop-i.scale c.loop-i.room _ c.loop-i.invariant.so_far c.from-byte.result c.loop-i-test.true c.from-byte.ensures c.if-byte-lt128.false c.if-room-lt128.true

pub loop-i-preserved : goal.loop-i-preserved
loop-i-preserved c =
    let small : c.from-byte.result < 256 = let h = c.type_inv.bytes c.loop-i.i in omega (arith, c.from-byte.ensures) in
    record {
      so_far = digits_more c.args.bytes.now c.loop-i.i c.loop-i.sum c.loop-i.scale c.loop-i.room _ c.loop-i.invariant.so_far c.from-byte.result c.loop-i-test.true c.from-byte.ensures c.if-byte-lt128.false c.if-room-lt128.false;
      fits = less_left c.loop-i.sum c.loop-i.scale c.loop-i.room _ c.args.max (omega arith) c.loop-i.invariant.fits;
    }

pub returns : goal.returns
returns c = digits_end c.args.bytes.now c.loop-i.i c.loop-i.sum c.loop-i.scale c.loop-i.room _ c.loop-i.invariant.so_far (omega arith)
