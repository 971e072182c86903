use Rattle.std.proofs.Common.{◌≡◌, ◌+◌, ◌-◌, ◌/◌, ◌<◌, ◌∙◌, ◌++◌, arith, ap}
use Rattle.sst_base.specs.Varint.{varint, varint_within}
use Rattle.sst_base.specs.VarintLaws.{less_room, digit_pushed, last_pushed}
use Rattle.sst_base.proofs.in_place.put_varint.Goals as goal

pub loop-i-preserved : goal.loop-i-preserved
loop-i-preserved c = record {
  room = less_room c.loop-i.rest c.loop-i.i (omega arith) c.loop-i.invariant.room;
  so_far = ap (λ xs. xs ++ varint_within (9 - (c.loop-i.i + 1)) (c.loop-i.rest / 128)) c.put_byte-end.ensures.bytes
      ∙ digit_pushed _ _ c.loop-i.rest (9 - c.loop-i.i) (9 - (c.loop-i.i + 1)) (omega arith) c.if-rest-lt128.false c.loop-i.invariant.so_far;
  len = omega (arith, c.put_byte-end.ensures.len, c.loop-i.invariant.len);
}

pub returns-then-rest-lt128-clause-bytes : goal.returns-then-rest-lt128-clause-bytes
unfolding varint
returns-then-rest-lt128-clause-bytes c = c.put_byte.ensures.bytes ∙ last_pushed _ _ c.loop-i.rest (9 - c.loop-i.i) c.if-rest-lt128.true c.loop-i.invariant.so_far

pub returns-clause-bytes : goal.returns-clause-bytes
unfolding varint
returns-clause-bytes c =
    let e : c.loop-i.i ≡ 9 = omega arith in
    let room : c.loop-i.rest < 2 = rw e at c.loop-i.invariant.room in
    let small : c.loop-i.rest < 128 = omega arith in
    c.put_byte-2.ensures.bytes ∙ last_pushed _ _ c.loop-i.rest (9 - c.loop-i.i) small c.loop-i.invariant.so_far
