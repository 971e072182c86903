use Rattle.std.proofs.Common.{IsTrue, ◌↔◌, map, subst}
use Rattle.sst_parts.specs.PartCopies.{known_so_far}
use Rattle.sst_parts.specs.PartWriting.{PartWriting, blocks_so_far}
use Rattle.sstable_blocks.specs.Writing.{Follows}
use Rattle.sst_parts.proofs.writer.PartWriter.fits_after.Goals as goal

pub returns : goal.returns
returns g c =
    let i = c.self.inside in
    let items = map g.T.AsEntry.entry c.args.items.now in
    let e = c.last_end.ensures in
    subst (λ (v : PartWriting g.row.W.Denot). IsTrue c.fits_behind.result ↔ Follows (blocks_so_far v) items) c.self.view_is (c.fits_behind.ensures (known_so_far i.core) e.last e.ordered)
