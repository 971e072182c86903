use Rattle.std.proofs.Common.{◌≡◌, ap, ◌∙◌}
use Rattle.std.specs.List.{count_by}
use Rattle.sstable_blocks.specs.Prelude.{handles, count_passed}
use Rattle.sstable_blocks.specs.RunReading.{hashes}
use Rattle.sst_merge.specs.MovableBlocks.{is_block_sought}
use Rattle.sst_merge.specs.MovableTables.{table_blocks}
use Rattle.sst_merge.proofs.Moving.TableEnds.{are_read, for_known, passed_same}
use Rattle.sst_merge.proofs.movable_table.blocks_passed.Goals as goal

pub returns : goal.returns
returns g c =
    let h = hashes g.H.BlockHash.hash64 g.H.BlockHash.hash128 in
    let t = c.args.table.now in
    let b = g.S.FrameSource.bytes t.source in
    let key = c.args.key.now in
    let found = c.bound_of.result in
    for_known (λ blocks. c.position.result ≡ count_by (is_block_sought key c.args.at_most) blocks) (table_blocks h b t.index) (λ blocks known.
    c.position.ensures.value ∙ ap (λ n. count_passed handles n found.from c.index.result.now.items) c.bound_of.ensures.needle ∙ ap (λ xs. count_passed handles key found.from xs) c.index.ensures.items
    ∙ passed_same key c.args.at_most found.from t.index blocks c.bound_of.ensures.from (are_read h b t.index blocks known).ends)
