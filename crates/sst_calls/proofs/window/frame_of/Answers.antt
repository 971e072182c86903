use Rattle.std.proofs.Common.{rules, ◌<◌, ◌^◌, arith}
use Rattle.sstable_blocks.specs.RunLaws.{payload_fits}
use Rattle.sst_calls.proofs.Lists.BlockLists.{block_here}
use Rattle.sst_calls.proofs.Lists.RunBlockLists.{block_of_handle}
use Rattle.sst_calls.proofs.window.frame_of.Goals as goal

pub returns-clause-range : goal.returns-clause-range
returns-clause-range c =
    let sound = c.requires.sound in
    let o = c.sound_opens.ensures sound.0 sound.1.0 c.args.bytes.now c.args.handles.now sound.1.1 in
    let here = block_here sound.0.hash64 sound.1.0 c.args.bytes.now c.args.handles.now c.index_of.result.items c.args.block c.handle_at-frame.result o c.index_of.ensures.items c.handle_at-frame.ensures.range in
    here.2.range

pub returns-clause-is_block : goal.returns-clause-is_block
returns-clause-is_block c =
    let sound = c.requires.sound in
    let o = c.sound_opens.ensures sound.0 sound.1.0 c.args.bytes.now c.args.handles.now sound.1.1 in
    let here = block_here sound.0.hash64 sound.1.0 c.args.bytes.now c.args.handles.now c.index_of.result.items c.args.block c.handle_at-frame.result o c.index_of.ensures.items c.handle_at-frame.ensures.range in
    let h = c.handle_at-frame.result in
    let size : h.size < 2 ^ 32 = search (arith, rules) in (
      sound.0.hash64,
      record {
        fits = omega (arith, size, payload_fits c.args.bytes.now h);
        encoding = (here.0, here.2.interval, here.2.buckets, here.2.is_block);
      },
    )

pub returns-clause-items : goal.returns-clause-items
returns-clause-items c = block_of_handle c.args.bytes.now c.args.handles.now c.index_of.result.items c.args.block c.handle_at-frame.result c.index_of.ensures.items c.handle_at-frame.ensures.range
