use Rattle.std.proofs.Common.{◌≡◌, ◌+◌, ◌<◌, length, ◌∙◌, arith}
use Rattle.sstable_blocks.specs.Prelude.{DataRefParts}
use Rattle.sst_merge.specs.MovableBlocks.{block_lists, entries_before}
use Rattle.sst_merge.proofs.Moving.BlockEnds.{front_at, front_held, map_item, some_in, whole_front}
use Rattle.sst_merge.proofs.movable_blocks.open_front.Goals as goal

pub returns-clause-holds : goal.returns-clause-holds
returns-clause-holds g c =
    let blocks = block_lists c.args.blocks.now in
    let inside : c.args.index < length c.args.blocks.now = omega arith in
    let here = map_item (λ (d : DataRefParts). d.items) c.args.blocks.now c.args.index c.index-blocks-index.result inside c.index-blocks-index.is in
    front_held blocks c.args.index c.index-blocks-index.result.items here 0 c.entries.result c.hold_first.result (c.entries.ensures ∙ whole_front blocks c.args.index c.index-blocks-index.result.items here) c.hold_first.ensures

pub returns-clause-place : goal.returns-clause-place
returns-clause-place g c =
    let blocks = block_lists c.args.blocks.now in
    let inside : c.args.index < length c.args.blocks.now = omega arith in
    let here = map_item (λ (d : DataRefParts). d.items) c.args.blocks.now c.args.index c.index-blocks-index.result inside c.index-blocks-index.is in
    let some = some_in blocks c.args.index c.index-blocks-index.result.items c.requires.some here in
    front_at blocks c.args.index c.index-blocks-index.result.items here 0 c.entries.result c.hold_first.result (c.entries.ensures ∙ whole_front blocks c.args.index c.index-blocks-index.result.items here) c.hold_first.ensures (omega (arith, some))
    ∙ (let e : entries_before blocks c.args.index + 0 ≡ entries_before blocks c.args.index = omega arith in e)
