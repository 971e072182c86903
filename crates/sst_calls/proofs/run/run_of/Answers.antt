use Rattle.sstable_blocks.specs.RunReading.{hashes}
use Rattle.sst_calls.proofs.Lists.Places.{some_frame}
use Rattle.sst_calls.proofs.run.run_of.Goals as goal

pub returns-in-Ok-clause-filter : goal.returns-in-Ok-clause-filter
returns-in-Ok-clause-filter g c =
    let s = c.in-Ok.ensures.sound in
    let o = c.sound_opens.ensures (hashes g.H.BlockHash.hash64 g.H.BlockHash.hash128) _ s.0 c.in-Ok.handles s.1 in
    some_frame s.0 c.in-Ok.handles.filter o.filter_range
