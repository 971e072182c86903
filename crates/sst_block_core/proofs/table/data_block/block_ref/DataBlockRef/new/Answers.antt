use Rattle.std.proofs.Common.{◌≡◌, map, length, subst, sym}
use Rattle.sst_base.specs.Entry.{IsEntry, plain}
use Rattle.sst_block_core.specs.Buckets.{stored_count}
use Rattle.sst_block_core.specs.Entries.{entries}
use Rattle.sst_block_core.specs.EntryLaws.{IsKind-entries}
use Rattle.sst_block_core.specs.CanonicalLaws.{passes_from}
use Rattle.sst_block_core.specs.DataBlock.{DataRefParts}
use Rattle.sst_block_core.proofs.table.data_block.block_ref.DataBlockRef.new.Goals as goal

pub returns-clause-read : goal.returns-clause-read
returns-clause-read g c = λ items r b block.
    let a = passes_from entries IsEntry IsKind-entries g.H.BlockHash.hash64 c.args.payload.now items r b block c.requires.fits in
    let P : DataRefParts → Type 0 = λ d. (d.items ≡ map plain items) × (d.interval ≡ r) × (d.stored ≡ stored_count r (length items) b) in
    subst P (sym c.over.ensures) (a.1, a.2, a.3)
