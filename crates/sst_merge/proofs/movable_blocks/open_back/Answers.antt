use Rattle.std.proofs.Common.{◌≡◌, ◌-◌, ◌<◌, length, suc, ap, ◌∙◌, arith}
use Rattle.sstable_blocks.specs.Prelude.{DataRefParts}
use Rattle.sst_merge.specs.MovableBlocks.{block_lists, entries_before}
use Rattle.sst_merge.proofs.Moving.BlockEnds.{back_before, back_held, map_item, some_in, whole_back}
use Rattle.sst_merge.proofs.movable_blocks.open_back.Goals as goal

pub returns-clause-holds : goal.returns-clause-holds
returns-clause-holds g c =
    let blocks = block_lists c.args.blocks.now in
    let items = c.index-blocks-index.result.items in
    let inside : c.args.index - 1 < length c.args.blocks.now = omega arith in
    let here = map_item (λ (d : DataRefParts). d.items) c.args.blocks.now (c.args.index - 1) c.index-blocks-index.result inside c.index-blocks-index.is in
    back_held blocks (c.args.index - 1) items here (length items) c.entries.result c.hold_last.result (c.entries.ensures ∙ whole_back blocks (c.args.index - 1) items here) c.hold_last.ensures

pub returns-clause-place : goal.returns-clause-place
returns-clause-place g c =
    let blocks = block_lists c.args.blocks.now in
    let items = c.index-blocks-index.result.items in
    let inside : c.args.index - 1 < length c.args.blocks.now = omega arith in
    let here = map_item (λ (d : DataRefParts). d.items) c.args.blocks.now (c.args.index - 1) c.index-blocks-index.result inside c.index-blocks-index.is in
    back_before blocks (c.args.index - 1) items here c.entries.result c.hold_last.result (c.entries.ensures ∙ whole_back blocks (c.args.index - 1) items here) c.hold_last.ensures (some_in blocks (c.args.index - 1) items c.requires.blocks.some here)
    ∙ ap (entries_before blocks) (let e : suc (c.args.index - 1) ≡ c.args.index = omega arith in e)
