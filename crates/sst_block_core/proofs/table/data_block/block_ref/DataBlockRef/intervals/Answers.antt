use Rattle.std.proofs.Common.{◌≡◌, subst, map}
use Rattle.sst_base.specs.Entry.{plain}
use Rattle.sst_block_core.specs.Kind.{IsOrdered}
use Rattle.sst_block_core.specs.Entries.{entries}
use Rattle.sst_block_core.specs.DataBlock.{DataRefParts}
use Rattle.sst_block_core.proofs.Items.PlainEntries.{plain-items_in, ordered_items_in}
use Rattle.sst_block_core.proofs.table.data_block.block_ref.DataBlockRef.intervals.Goals as goal

pub returns-clause-ordered : goal.returns-clause-ordered
returns-clause-ordered g c =
    let P : DataRefParts → Type 0 = λ d. IsOrdered entries d.items in
    subst P c.self.view_is (ordered_items_in g.H.BlockHash.hash64 c.self.inside.payload.now c.self.invariant.0 c.self.invariant.2)

pub returns-clause-plain : goal.returns-clause-plain
returns-clause-plain g c =
    let P : DataRefParts → Type 0 = λ d. map plain d.items ≡ d.items in
    subst P c.self.view_is (plain-items_in g.H.BlockHash.hash64 c.self.inside.payload.now c.self.invariant.0 c.self.invariant.2)
