use Rattle.sstable_blocks.specs.Opened.{index_in}
use Rattle.sstable_blocks.specs.RunReading.{hashes}
use Rattle.sstable_blocks.proofs.run.run_ref.RunRef.new.Goals as goal

pub index_over-requires-clause-range : goal.index_over-requires-clause-range
index_over-requires-clause-range g c =
    let s = c.requires in
    (c.sound_opens.ensures (hashes g.H.BlockHash.hash64 g.H.BlockHash.hash128) s.0 _ _ s.1).index_range

pub index_over-requires-clause-index : goal.index_over-requires-clause-index
index_over-requires-clause-index g c =
    let s = c.requires in
    let o = c.sound_opens.ensures (hashes g.H.BlockHash.hash64 g.H.BlockHash.hash128) s.0 _ _ s.1 in
    (index_in c.args.bytes.now c.args.handles.now.index, o.index_interval, o.index_block)
