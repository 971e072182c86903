use Rattle.std.proofs.Common.{arith, refl, ◌≡◌, ◌≤◌, ◌+◌, ◌*◌, ◌/◌, length}
use Rattle.sst_base.proofs.Hashes.Polynomials.{eight_steps, bytes_more, tail_more}
use Rattle.sst_base.proofs.hash.continued64_by_eight.Goals as goal

pub loop-i-preserved : goal.loop-i-preserved
loop-i-preserved c =
    let inside : 8 * c.loop-i.i + 8 ≤ length c.args.bytes.now = omega arith in
    bytes_more 8 852891037441 eight_steps 64 c.args.so_far c.args.bytes.now c.loop-i.i c.loop-i.hash _ _ c.eight_at.result inside c.loop-i.invariant refl c.eight_at.ensures refl

pub returns : goal.returns
returns c =
    let all : c.loop-i.i ≡ length c.args.bytes.now / 8 = omega arith in
    tail_more 64 c.args.so_far c.args.bytes.now _ (8 * (length c.args.bytes.now / 8)) c.loop-i.hash _ (rw all at c.loop-i.invariant) c.split_at.ensures.back c.continued64_by_four.ensures
