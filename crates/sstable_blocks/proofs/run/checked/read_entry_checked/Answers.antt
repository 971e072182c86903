use Rattle.sstable_blocks.specs.RunReading.{hashes}
use Rattle.sstable_blocks.proofs.Reading.Answered.{means_on, sound_on}
use Rattle.sstable_blocks.proofs.run.checked.read_entry_checked.Goals as goal

pub returns-clause-means : goal.returns-clause-means
returns-clause-means g c = means_on (hashes g.H.BlockHash.hash64 g.H.BlockHash.hash128) _ _ _ _ _ _ _
    (λ all answer. c.checked_answer_means.ensures (hashes g.H.BlockHash.hash64 g.H.BlockHash.hash128) all c.args.handles.now c.args.needle.now c.args.seqno answer)
    c.read_entry_at.ensures.cells c.read_entry_at.ensures.exact

pub returns-clause-sound : goal.returns-clause-sound
returns-clause-sound g c = sound_on (hashes g.H.BlockHash.hash64 g.H.BlockHash.hash128) _ _ _ _ _ _ _
    (λ all blocks sound. c.sound_is_read.ensures (hashes g.H.BlockHash.hash64 g.H.BlockHash.hash128) blocks all c.args.handles.now c.args.needle.now c.args.seqno g.met.H.BlockHash.hash128_fits sound)
    c.read_entry_at.ensures.exact
