use Rattle.std.proofs.Common.{subst}
use Rattle.sst_base.specs.Bytes.{IsBytes}
use Rattle.sst_base.specs.Entry.{IsEntry}
use Rattle.sst_block_core.specs.Entries.{entries}
use Rattle.sst_block_core.specs.EntryLaws.{IsKind-entries}
use Rattle.sst_block_core.specs.DataBlock.{DataRefParts}
use Rattle.sst_block_core.specs.Payload.{IsBlock}
use Rattle.sst_block_core.specs.CanonicalLaws.{passes_from, block_from}
use Rattle.sst_block_core.proofs.table.data_block.block_ref.DataBlockRef.as_slice.Goals as goal

pub returns-clause-encoded : goal.returns-clause-encoded
returns-clause-encoded g c =
    let hash = g.H.BlockHash.hash64 in
    let p = c.self.inside.payload.now in
    let some = c.self.invariant.2 in
    let bytes : IsBytes p = c.self.invariant.1 in
    let passes = (passes_from entries IsEntry IsKind-entries hash p some.0 some.1 some.2 some.3 c.self.invariant.0).0 in
    let P : DataRefParts → Type 0 = λ d. IsBlock entries IsEntry hash d.payload d.items d.interval d.stored in
    subst P c.self.view_is (block_from entries IsEntry IsKind-entries hash p bytes passes)
