use Rattle.std.proofs.Common.{arith, ap}
use Rattle.sstable_blocks.specs.Prelude.{trailer_in}
use Rattle.sst_calls.proofs.block_view.BlockView.interval.Goals as goal

pub new-requires : goal.new-requires
new-requires c =
    let b = c.self.invariant.1 in
    let e = b.1.encoding in
    (c.data_block_is_read.ensures b.0 c.self.inside.payload.now e.0 e.1 e.2 b.1.fits e.3).0.encoded.trailer

pub returns-clause-some : goal.returns-clause-some
returns-clause-some c =
    let b = c.self.invariant.1 in
    let e = b.1.encoding in
    let read = c.data_block_is_read.ensures b.0 c.self.inside.payload.now e.0 e.1 e.2 b.1.fits e.3 in
    omega (arith, c.from.ensures, c.interval.ensures, ap (λ p. (trailer_in p).interval) c.new.ensures, read.0.encoded.parts.interval)
