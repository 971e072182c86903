use Rattle.std.proofs.Common.{subst}
use Rattle.sst_block_core.specs.Handles.{IsIndexBlock}
use Rattle.sst_block_core.specs.IndexBlock.{IndexRefParts}
use Rattle.sst_block_core.proofs.Items.IndexBlocks.{read_block}
use Rattle.sst_block_core.proofs.table.index_block.block_ref.IndexBlockRef.as_slice.Goals as goal

pub returns-clause-encoded : goal.returns-clause-encoded
returns-clause-encoded c =
    let P : IndexRefParts → Type 0 = λ d. IsIndexBlock d.payload d.items d.interval in
    subst P c.self.view_is (read_block c.self.inside.payload.now c.self.invariant.0 c.self.invariant.2)
