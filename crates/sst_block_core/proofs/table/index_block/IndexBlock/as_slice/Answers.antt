use Rattle.std.proofs.Common.{subst}
use Rattle.sst_block_core.specs.Handles.{IsIndexBlock}
use Rattle.sst_block_core.specs.IndexBlock.{IndexBlockParts}
use Rattle.sst_block_core.proofs.Items.IndexBlocks.{read_block}
use Rattle.sst_block_core.proofs.table.index_block.IndexBlock.as_slice.Goals as goal

pub returns-clause-encoded : goal.returns-clause-encoded
returns-clause-encoded c =
    let P : IndexBlockParts → Type 0 = λ d. IsIndexBlock d.payload d.items d.interval in
    subst P c.self.view_is (read_block c.self.inside.inner.payload c.size-fits.ensures.fits c.self.invariant.0)
