use Rattle.std.proofs.Common.{◌<◌, length, map, ap, ◌∙◌, arith}
use Rattle.sst_block_core.specs.DataBlock.{DataRefParts}
use Rattle.sstable_blocks.specs.Opened.{index_in}
use Rattle.sstable_blocks.specs.RunBlocks.{block_of}
use Rattle.sstable_blocks.proofs.Reading.OpenedBlocks.{one_more}
use Rattle.sstable_blocks.specs.BetweenLaws.{item_found}
use Rattle.sstable_blocks.proofs.run.run_ref.RunRef.blocks_of.Goals as goal

pub loop-i-preserved : goal.loop-i-preserved
loop-i-preserved g c =
    let run = c.args.self.now in
    let hs = index_in run.bytes run.handles.index in
    let size = ap length c.index.ensures.items in
    let inside : c.loop-i.i < length hs = omega (arith, size, c.len-count.ensures.count, c.loop-i-test.true) in
    let h = item_found hs c.loop-i.i inside in
    record {
      inside = omega (arith, c.loop-i-test.true);
      opened = ap (map (λ (d : DataRefParts). d.items)) c.in_ok-push.ensures.items
          ∙ one_more (λ (d : DataRefParts). d.items) (block_of run) c.loop-i.blocks.items hs c.loop-i.i c.block_at.result h.0 c.loop-i.invariant.opened h.1 (ap (λ (d : DataRefParts). d.items) (c.block_at.ensures.block h.0 h.1));
    }
