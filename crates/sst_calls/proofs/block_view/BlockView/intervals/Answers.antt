use Rattle.std.proofs.Common.{subst}
use Rattle.sstable_blocks.specs.Prelude.{DataRefParts, IsOrdered, entries}
use Rattle.sst_calls.proofs.block_view.BlockView.intervals.Goals as goal

pub returns-clause-ordered : goal.returns-clause-ordered
returns-clause-ordered c =
    let b = c.self.invariant.1 in
    let e = b.1.encoding in
    let read = c.data_block_is_read.ensures b.0 c.self.inside.payload.now e.0 e.1 e.2 b.1.fits e.3 in
    let P : DataRefParts → Type 0 = λ d. IsOrdered entries d.items in
    subst P c.self.view_is read.0.order
