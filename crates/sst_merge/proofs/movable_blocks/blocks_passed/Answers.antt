use Rattle.std.proofs.Common.{◌+◌, ◌-◌, ◌/◌, ◌<◌, length, sym, ◌∙◌, arith}
use Rattle.sstable_blocks.specs.Prelude.{DataRefParts}
use Rattle.sst_merge.specs.MovableBlocks.{block_lists}
use Rattle.sst_merge.proofs.Moving.BlockCounts.{block_side}
use Rattle.sst_merge.proofs.Moving.BlockEnds.{map_item}
use Rattle.sst_merge.proofs.movable_blocks.blocks_passed.Goals as goal

pub loop-lo-preserved-then-passes_block : goal.loop-lo-preserved-then-passes_block
loop-lo-preserved-then-passes_block g c =
    let mid = c.loop-lo.lo + (c.loop-lo.hi - c.loop-lo.lo) / 2 in
    let inside : mid < length c.args.blocks.now = omega (arith, c.loop-lo-test.true, c.loop-lo.invariant.inside) in
    let side = block_side c.args.key.now c.args.at_most (block_lists c.args.blocks.now) mid c.index-blocks-mid.result.items c.requires (map_item (λ (d : DataRefParts). d.items) c.args.blocks.now mid c.index-blocks-mid.result inside c.index-blocks-mid.is) in
    let more = side.0 (sym c.passes_block.ensures ∙ c.if-passes_block.true) in
    record { lo_under = omega (arith, more); hi_over = c.loop-lo.invariant.hi_over; inside = c.loop-lo.invariant.inside }

pub loop-lo-preserved : goal.loop-lo-preserved
loop-lo-preserved g c =
    let mid = c.loop-lo.lo + (c.loop-lo.hi - c.loop-lo.lo) / 2 in
    let inside : mid < length c.args.blocks.now = omega (arith, c.loop-lo-test.true, c.loop-lo.invariant.inside) in
    let side = block_side c.args.key.now c.args.at_most (block_lists c.args.blocks.now) mid c.index-blocks-mid.result.items c.requires (map_item (λ (d : DataRefParts). d.items) c.args.blocks.now mid c.index-blocks-mid.result inside c.index-blocks-mid.is) in
    record { lo_under = c.loop-lo.invariant.lo_under; hi_over = side.1 (sym c.passes_block.ensures ∙ c.if-passes_block.false); inside = omega (arith, inside) }
