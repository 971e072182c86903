use Rattle.sst_block_core.proofs.Items.IndexBlocks.{index_passes}
use Rattle.sst_block_core.proofs.table.index_block.IndexBlock.new.Goals as goal

pub returns-clause-read : goal.returns-clause-read
returns-clause-read c = λ items r block.
    let a = index_passes r c.args.block.payload items c.size-fits.ensures.fits block in
    (a.1, a.0.parts.interval)
