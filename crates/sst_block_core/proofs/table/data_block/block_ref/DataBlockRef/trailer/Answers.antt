use Rattle.std.proofs.Common.{◌≡◌, ◌≤◌, length, subst}
use Rattle.sst_base.specs.Entry.{IsEntry}
use Rattle.sst_block_core.specs.Trailer.{trailer_in}
use Rattle.sst_block_core.specs.Entries.{entries}
use Rattle.sst_block_core.specs.Stages.{HasIndexes}
use Rattle.sst_block_core.specs.EntryLaws.{IsKind-entries}
use Rattle.sst_block_core.specs.DataBlock.{DataRefParts}
use Rattle.sst_block_core.specs.OpeningLaws.{opened, indexed}
use Rattle.sst_block_core.proofs.table.data_block.block_ref.DataBlockRef.trailer.Goals as goal

pub new-requires : goal.new-requires
new-requires g c =
    let some = c.self.invariant.2 in
    (opened entries IsEntry IsKind-entries g.H.BlockHash.hash64 c.self.inside.payload.now some.0 some.1 some.2 c.self.invariant.0 some.3.encoding).trailer

pub returns-clause-count : goal.returns-clause-count
returns-clause-count g c =
    let some = c.self.invariant.2 in
    let P : DataRefParts → Type 0 = λ d. (trailer_in d.payload).item_count ≡ length d.items in
    subst P c.self.view_is (opened entries IsEntry IsKind-entries g.H.BlockHash.hash64 c.self.inside.payload.now some.0 some.1 some.2 c.self.invariant.0 some.3.encoding).count

pub returns-clause-some : goal.returns-clause-some
returns-clause-some g c =
    let some = c.self.invariant.2 in
    let P : DataRefParts → Type 0 = λ d. 1 ≤ length d.items in
    subst P c.self.view_is (opened entries IsEntry IsKind-entries g.H.BlockHash.hash64 c.self.inside.payload.now some.0 some.1 some.2 c.self.invariant.0 some.3.encoding).some

pub returns-clause-indexes : goal.returns-clause-indexes
returns-clause-indexes g c =
    let some = c.self.invariant.2 in
    let P : DataRefParts → Type 0 = λ d. HasIndexes entries g.H.BlockHash.hash64 d.payload d.items d.interval d.stored in
    subst P c.self.view_is (indexed entries IsEntry IsKind-entries g.H.BlockHash.hash64 c.self.inside.payload.now some.0 some.1 some.2 c.self.invariant.0 some.3.encoding)
