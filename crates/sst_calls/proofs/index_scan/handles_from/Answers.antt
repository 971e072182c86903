use Rattle.std.proofs.Common.{◌∙◌, arith, ap}
use Rattle.sstable_blocks.specs.Prelude.{trailer_in}
use Rattle.sst_calls.proofs.index_scan.handles_from.Goals as goal

pub new-requires : goal.new-requires
new-requires c =
    let b = c.requires.block in
    let e = b.encoding in
    (c.index_block_is_read.ensures e.1 c.args.payload.now e.0 b.fits e.2).0.trailer

pub items_from-requires-clause-some : goal.items_from-requires-clause-some
items_from-requires-clause-some c =
    let b = c.requires.block in
    let e = b.encoding in
    let read = c.index_block_is_read.ensures e.1 c.args.payload.now e.0 b.fits e.2 in
    omega (arith, c.from-interval.ensures, c.interval.ensures, ap (λ p. (trailer_in p).interval) c.new.ensures, read.0.parts.interval)
