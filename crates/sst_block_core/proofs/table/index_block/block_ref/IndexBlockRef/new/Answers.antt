use Rattle.std.proofs.Common.{◌≡◌, subst, sym}
use Rattle.sst_block_core.specs.IndexBlock.{IndexRefParts}
use Rattle.sst_block_core.proofs.Items.IndexBlocks.{index_passes}
use Rattle.sst_block_core.proofs.table.index_block.block_ref.IndexBlockRef.new.Goals as goal

pub returns-clause-read : goal.returns-clause-read
returns-clause-read c = λ items r block.
    let a = index_passes r c.args.payload.now items c.requires.fits block in
    let P : IndexRefParts → Type 0 = λ d. (d.items ≡ items) × (d.interval ≡ r) in
    subst P (sym c.over.ensures) (a.1, a.0.parts.interval)
