use Rattle.sstable_blocks.specs.RunReading.{hashes}
use Rattle.sstable_blocks.proofs.run.laws.layout_is_read.Goals as goal

pub returns : goal.returns
returns c = λ f blocks bytes h needle seqno sums layout.
    c.sound_is_read.ensures (hashes f.hash64 f.hash128) blocks bytes h needle seqno sums (c.layout_is_sound.ensures f blocks bytes h layout)
