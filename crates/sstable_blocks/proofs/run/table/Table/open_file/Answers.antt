use Rattle.std.proofs.Common.{arith}
use Rattle.sstable_blocks.specs.RunReading.{hashes}
use Rattle.sstable_blocks.specs.KeptLaws.{file_on, footer_fails_first}
use Rattle.sstable_blocks.specs.Footer.{table_handles}
use Rattle.sstable_blocks.specs.FrameCounts.{file_frames, open_frames}
use Rattle.sstable_blocks.specs.FrameCountLaws.{goes_on, stops_as}
use Rattle.sstable_blocks.proofs.run.table.Table.open_file.Goals as goal

pub returns-in-Ok-clause-exact : goal.returns-in-Ok-clause-exact
returns-in-Ok-clause-exact g c =
    let f = c.in-Ok.ensures in
    file_on (hashes g.H.BlockHash.hash64 g.H.BlockHash.hash128) (λ t. t.handles) (λ t. t.filter) (λ t. t.index) (λ e. e.error) _ _ _ _ _ _ _ _ f.source.same f.exact c.open.ensures.handles
    (λ e less. omega (arith, f.source.failures_grow)) f.source.kept c.open.ensures.exact

pub returns-in-Err-clause-exact : goal.returns-in-Err-clause-exact
returns-in-Err-clause-exact g c = footer_fails_first (hashes g.H.BlockHash.hash64 g.H.BlockHash.hash128) _ _ _ _ c.in-Err.ensures.exact

pub returns-in-Ok-clause-asked : goal.returns-in-Ok-clause-asked
unfolding file_frames
returns-in-Ok-clause-asked g c =
    let f = c.in-Ok.ensures in
    let o = c.open.ensures in
    goes_on _ _ _ _ _ _ _ _ 1 _ _ table_handles (λ all h. open_frames (hashes g.H.BlockHash.hash64 g.H.BlockHash.hash128) all h) f.source.same f.source.asks.1 f.source.failures_grow o.source.failures_grow f.exact o.asked

pub returns-in-Err-clause-asked : goal.returns-in-Err-clause-asked
unfolding file_frames
returns-in-Err-clause-asked g c =
    let e = c.in-Err.ensures in
    stops_as _ _ _ _ _ 1 _ _ table_handles (λ all h. open_frames (hashes g.H.BlockHash.hash64 g.H.BlockHash.hash128) all h) e.asked e.exact
