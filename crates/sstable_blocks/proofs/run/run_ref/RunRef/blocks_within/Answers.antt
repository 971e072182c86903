use Rattle.std.proofs.Common.{List, [], refl, ap, ◌∙◌}
use Rattle.sst_block_core.specs.Handles.{Handle}
use Rattle.sstable_blocks.specs.Opened.{index_in}
use Rattle.sstable_blocks.specs.RunReading.{hashes}
use Rattle.sstable_blocks.specs.Scans.{end_block, first_block}
use Rattle.sstable_blocks.proofs.Scans.RunScans.{fresh_entries, fresh_handles}
use Rattle.sstable_blocks.proofs.run.run_ref.RunRef.blocks_within.Goals as goal

pub returns-clause-left : goal.returns-clause-left
returns-clause-left g c = λ blocks sound.
    let h = hashes g.H.BlockHash.hash64 g.H.BlockHash.hash128 in
    let run = c.args.self.now in
    let r = c.args.bounds.now in
    let hs = index_in run.bytes run.handles.index in
    let same = c.index-index.ensures.items in
    fresh_entries run.bytes r h hs [] [] c.first_block.result c.end_block.result blocks c.note_read.ensures.blocks refl refl
    (c.first_block.ensures.value ∙ ap (λ (ks : List Handle). first_block r ks) same) (c.end_block.ensures.value ∙ ap (λ (ks : List Handle). end_block r ks) same)
    (c.sound_is_scanned.ensures h blocks run.bytes run.handles r hs g.met.H.BlockHash.hash128_fits sound c.note_read.ensures.index)

pub returns-clause-handles : goal.returns-clause-handles
returns-clause-handles g c =
    let run = c.args.self.now in
    let r = c.args.bounds.now in
    let same = c.index-index.ensures.items in
    fresh_handles r (index_in run.bytes run.handles.index) c.first_block.result c.end_block.result (c.first_block.ensures.value ∙ ap (λ (ks : List Handle). first_block r ks) same) (c.end_block.ensures.value ∙ ap (λ (ks : List Handle). end_block r ks) same)
