use Rattle.sstable_blocks.specs.RunReading.{hashes}
use Rattle.sstable_blocks.proofs.run.run_ref.RunRef.with_index.Goals as goal

pub new-requires : goal.new-requires
new-requires g c =
    let s = c.requires.sound in
    (c.sound_opens.ensures (hashes g.H.BlockHash.hash64 g.H.BlockHash.hash128) s.0 _ _ s.1).filter_range
