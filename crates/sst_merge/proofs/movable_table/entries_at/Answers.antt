use Rattle.std.proofs.Common.{◌≡◌, ◌<◌, Ok, Some, ap, slice_get, sym, ◌∙◌}
use Rattle.sstable_blocks.specs.Prelude.{Window, Entry}
use Rattle.sstable_blocks.specs.Opened.{range_of}
use Rattle.sstable_blocks.specs.RunReading.{block_items_at, hashes}
use Rattle.sstable_blocks.specs.Sources.{FailsAs}
use Rattle.sst_merge.specs.MovableTables.{table_blocks}
use Rattle.sstable_blocks.specs.BetweenLaws.{item_found}
use Rattle.sst_merge.proofs.Moving.TableEnds.{are_read, at_handle, block_fails, block_there, for_known}
use Rattle.sst_merge.proofs.movable_table.entries_at.Goals as goal

pub returns-in-Ok-clause-block : goal.returns-in-Ok-clause-block
returns-in-Ok-clause-block g c =
    let h = hashes g.H.BlockHash.hash64 g.H.BlockHash.hash128 in
    let t = c.args.table.now in
    let b = g.S.FrameSource.bytes t.source in
    let i = c.args.index in
    let there = item_found t.index i c.requires in
    let items = c.in-Ok.block.items in
    for_known (λ blocks. slice_get blocks i ≡ Some c.into_entries.result.window.list) (table_blocks h b t.index) (λ blocks known.
    block_there h b t.index blocks i there.0 items (are_read h b t.index blocks known) there.1 (at_handle (λ all g. block_items_at h all (range_of g) ≡ Ok items) b t.index i there.0 there.1 c.in-Ok.ensures.exact)
    ∙ ap Some (sym (ap (λ (w : Window Entry). w.list) c.into_entries.ensures.window)))

pub returns-clause-cause : goal.returns-clause-cause
returns-clause-cause g c =
    let h = hashes g.H.BlockHash.hash64 g.H.BlockHash.hash128 in
    let t = c.args.table.now in
    let b = g.S.FrameSource.bytes t.source in
    let i = c.args.index in
    let there = item_found t.index i c.requires in
    let failed = g.S.FrameSource.failures t.source < g.S.FrameSource.failures c.block_at.new.self.source in
    let reliable = g.S.FrameSource.is_reliable t.source in
    block_fails g.S.FrameSource.is_reliable t.source failed h b t.index i there.0 c.in-Err.error there.1 (at_handle (λ all g. FailsAs failed reliable (block_items_at h all (range_of g)) c.in-Err.error) b t.index i there.0 there.1 c.in-Err.ensures.exact)
