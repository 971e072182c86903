use Rattle.std.proofs.Common.{subst}
use Rattle.sst_block_core.specs.Kind.{IsOrdered}
use Rattle.sst_block_core.specs.Handles.{handles}
use Rattle.sst_block_core.specs.IndexBlock.{IndexRefParts}
use Rattle.sst_block_core.proofs.Items.IndexBlocks.{ordered_handles}
use Rattle.sst_block_core.proofs.table.index_block.block_ref.IndexBlockRef.intervals.Goals as goal

pub returns-clause-ordered : goal.returns-clause-ordered
returns-clause-ordered c =
    let P : IndexRefParts → Type 0 = λ b. IsOrdered handles b.items in
    subst P c.self.view_is (ordered_handles c.self.inside.payload.now c.self.invariant.0 c.self.invariant.2)
