use Rattle.std.proofs.Common.{◌≡◌, ◌+◌, ◌<◌, Some, true, length, slice_get, ap, refl, sym, ◌∙◌, arith}
use Rattle.std.proofs.lemmas.List.{length-map}
use Rattle.std.proofs.lemmas.List.Sums.{count_by-le-length}
use Rattle.std.specs.List.{count_by}
use Rattle.sstable_blocks.specs.Prelude.{DataRefParts}
use Rattle.sstable_blocks.specs.Blocks.{joined}
use Rattle.sst_merge.specs.Movable.{is_sought}
use Rattle.sst_merge.specs.MovableBlocks.{block_lists, entries_before, entry_key}
use Rattle.sst_merge.proofs.Moving.BlockCounts.{stops}
use Rattle.sst_merge.proofs.Moving.BlockEnds.{back_at, back_held, back_none, map_item, some_in, taken}
use Rattle.sst_merge.proofs.Moving.BlockPlaces.{before_all}
use Rattle.sst_merge.proofs.movable_blocks.seek_back.Goals as goal

pub returns-then-index-blocks-clause-place : goal.returns-then-index-blocks-clause-place
returns-then-index-blocks-clause-place g c =
    let blocks = block_lists c.args.blocks.now in
    let n = length-map c.args.blocks.now (λ (d : DataRefParts). d.items) in
    c.open_back.ensures.place ∙ before_all blocks c.blocks_passed-index.result (omega (arith, n)) ∙ sym ((stops c.args.key.now true blocks c.requires).behind (omega (arith, n, c.blocks_passed-index.ensures.count)))

pub returns-in-Some-clause-holds : goal.returns-in-Some-clause-holds
returns-in-Some-clause-holds g c =
    let blocks = block_lists c.args.blocks.now in
    let items = c.index-blocks-index.result.items in
    let index = c.blocks_passed-index.result in
    let inside : index < length c.args.blocks.now = omega arith in
    let here = map_item (λ (d : DataRefParts). d.items) c.args.blocks.now index c.index-blocks-index.result inside c.index-blocks-index.is in
    let n = count_by (is_sought entry_key c.args.key.now true) items in
    back_held blocks index items here n (taken n items) (Some c.in-Some.open) refl (c.in-Some.ensures n refl)

pub returns-in-Some-clause-place : goal.returns-in-Some-clause-place
returns-in-Some-clause-place g c =
    let blocks = block_lists c.args.blocks.now in
    let items = c.index-blocks-index.result.items in
    let index = c.blocks_passed-index.result in
    let inside : index < length c.args.blocks.now = omega arith in
    let here = map_item (λ (d : DataRefParts). d.items) c.args.blocks.now index c.index-blocks-index.result inside c.index-blocks-index.is in
    let n = count_by (is_sought entry_key c.args.key.now true) items in
    let stop = (stops c.args.key.now true blocks c.requires).within items (ap (slice_get blocks) (sym c.blocks_passed-index.ensures.count) ∙ here) in
    back_at blocks index items here n (taken n items) c.in-Some.open refl (c.in-Some.ensures n refl) (count_by-le-length (is_sought entry_key c.args.key.now true) items)
    ∙ ap (λ m. entries_before blocks m + n) c.blocks_passed-index.ensures.count ∙ sym stop.0

pub returns-in-None-clause-place : goal.returns-in-None-clause-place
returns-in-None-clause-place g c =
    let blocks = block_lists c.args.blocks.now in
    let items = c.index-blocks-index.result.items in
    let index = c.blocks_passed-index.result in
    let inside : index < length c.args.blocks.now = omega arith in
    let here = map_item (λ (d : DataRefParts). d.items) c.args.blocks.now index c.index-blocks-index.result inside c.index-blocks-index.is in
    let n = count_by (is_sought entry_key c.args.key.now true) items in
    let stop = (stops c.args.key.now true blocks c.requires).within items (ap (slice_get blocks) (sym c.blocks_passed-index.ensures.count) ∙ here) in
    let none = back_none blocks index items here n (taken n items) refl (c.in-None.ensures n refl) (some_in blocks index items c.requires.some here) (count_by-le-length (is_sought entry_key c.args.key.now true) items) in
    let before = ap (entries_before blocks) c.blocks_passed-index.ensures.count in
    let at = c.open_back-in-None.ensures.place in
    at ∙ (let e : entries_before blocks index ≡ count_by (is_sought entry_key c.args.key.now true) (joined blocks) = omega (arith, stop.0, none, before) in e)
