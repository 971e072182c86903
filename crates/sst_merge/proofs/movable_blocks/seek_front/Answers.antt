use Rattle.std.proofs.Common.{◌+◌, ◌<◌, false, length, slice_get, ap, refl, sym, ◌∙◌, arith}
use Rattle.std.proofs.lemmas.List.{length-map}
use Rattle.std.specs.List.{count_by}
use Rattle.sstable_blocks.specs.Prelude.{DataRefParts}
use Rattle.sst_merge.specs.Movable.{is_sought}
use Rattle.sst_merge.specs.MovableBlocks.{block_lists, entries_before, entry_key}
use Rattle.sst_merge.proofs.Moving.BlockCounts.{stops}
use Rattle.sst_merge.proofs.Moving.BlockEnds.{front_at, front_held, map_item, dropped}
use Rattle.sst_merge.proofs.movable_blocks.seek_front.Goals as goal

pub returns-then-index-blocks-clause-place : goal.returns-then-index-blocks-clause-place
returns-then-index-blocks-clause-place g c =
    let n = length-map c.args.blocks.now (λ (d : DataRefParts). d.items) in
    sym ((stops c.args.key.now false (block_lists c.args.blocks.now) c.requires).behind (omega (arith, n, c.blocks_passed-index.ensures.count)))

pub returns-clause-holds : goal.returns-clause-holds
returns-clause-holds g c =
    let blocks = block_lists c.args.blocks.now in
    let items = c.index-blocks-index.result.items in
    let index = c.blocks_passed-index.result in
    let inside : index < length c.args.blocks.now = omega arith in
    let here = map_item (λ (d : DataRefParts). d.items) c.args.blocks.now index c.index-blocks-index.result inside c.index-blocks-index.is in
    let n = count_by (is_sought entry_key c.args.key.now false) items in
    front_held blocks index items here n (dropped n items) c.hold_from.result refl (c.hold_from.ensures n refl)

pub returns-clause-place : goal.returns-clause-place
returns-clause-place g c =
    let blocks = block_lists c.args.blocks.now in
    let items = c.index-blocks-index.result.items in
    let index = c.blocks_passed-index.result in
    let inside : index < length c.args.blocks.now = omega arith in
    let here = map_item (λ (d : DataRefParts). d.items) c.args.blocks.now index c.index-blocks-index.result inside c.index-blocks-index.is in
    let n = count_by (is_sought entry_key c.args.key.now false) items in
    let stop = (stops c.args.key.now false blocks c.requires).within items (ap (slice_get blocks) (sym c.blocks_passed-index.ensures.count) ∙ here) in
    front_at blocks index items here n (dropped n items) c.hold_from.result refl (c.hold_from.ensures n refl) stop.1
    ∙ ap (λ m. entries_before blocks m + n) c.blocks_passed-index.ensures.count ∙ sym stop.0
