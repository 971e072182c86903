use Rattle.std.proofs.Common.{◌≡◌, ◌≤◌, length, subst}
use Rattle.sst_block_core.specs.Trailer.{trailer_in}
use Rattle.sst_block_core.specs.Handles.{IsHandle, handles, no_hash}
use Rattle.sst_block_core.specs.HandleLaws.{IsKind-handles}
use Rattle.sst_block_core.specs.IndexBlock.{IndexRefParts}
use Rattle.sst_block_core.specs.OpeningLaws.{opened}
use Rattle.sst_block_core.proofs.table.index_block.block_ref.IndexBlockRef.trailer.Goals as goal

pub new-requires : goal.new-requires
new-requires c =
    let some = c.self.invariant.2 in
    (opened handles IsHandle IsKind-handles no_hash c.self.inside.payload.now some.0 some.1 0 c.self.invariant.0 some.2.block.encoding).trailer

pub returns-clause-count : goal.returns-clause-count
returns-clause-count c =
    let some = c.self.invariant.2 in
    let P : IndexRefParts → Type 0 = λ d. (trailer_in d.payload).item_count ≡ length d.items in
    subst P c.self.view_is (opened handles IsHandle IsKind-handles no_hash c.self.inside.payload.now some.0 some.1 0 c.self.invariant.0 some.2.block.encoding).count

pub returns-clause-some : goal.returns-clause-some
returns-clause-some c =
    let some = c.self.invariant.2 in
    let P : IndexRefParts → Type 0 = λ d. 1 ≤ length d.items in
    subst P c.self.view_is (opened handles IsHandle IsKind-handles no_hash c.self.inside.payload.now some.0 some.1 0 c.self.invariant.0 some.2.block.encoding).some
