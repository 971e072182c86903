use Rattle.std.proofs.Common.{◌<◌, Ok, Err}
use Rattle.std.specs.Prelude.{reverse}
use Rattle.sstable_blocks.specs.Prelude.{Entry}
use Rattle.sstable_blocks.specs.RunReading.{hashes}
use Rattle.sstable_blocks.specs.Scans.{most_left, reads_left}
use Rattle.sst_sources.specs.FailureLaws.{scan_fails_back, scan_no_more_back}
use Rattle.sst_sources.specs.Stored.{scan_list}
use Rattle.sst_sources.proofs.stored.RevScanSourceReversedInternalValue.next_entry.Goals as goal

pub returns-in-Ok-clause-no_more : goal.returns-in-Ok-clause-no_more
returns-in-Ok-clause-no_more g c =
    let h = hashes g.H.BlockHash.hash64 g.H.BlockHash.hash128 in
    let old = c.args.self.now.source in
    let new = c.next_entry_back.new.self in
    let step = c.in-Ok.ensures in
    scan_no_more_back {X = Entry} (g.S.FrameSource.failures old.table.source < g.S.FrameSource.failures new.table.source) (g.S.FrameSource.is_reliable old.table.source)
    (scan_list old.ended (g.S.FrameSource.bytes old.table.source) (λ all. reverse (reads_left h all old))) (scan_list new.ended (g.S.FrameSource.bytes new.table.source) (λ all. reverse (reads_left h all new)))
    (most_left old) (most_left new) (g.S.FrameSource.bytes old.table.source) (g.S.FrameSource.bytes new.table.source)
    (λ all. reads_left h all old) (λ all. reads_left h all new) old.ended new.ended (Ok c.in-Ok.entry) step.ended step.source.source.same step.last

pub returns-in-Err-clause-cause : goal.returns-in-Err-clause-cause
returns-in-Err-clause-cause g c =
    let h = hashes g.H.BlockHash.hash64 g.H.BlockHash.hash128 in
    let old = c.args.self.now.source in
    let new = c.next_entry_back.new.self in
    let step = c.in-Err.ensures in
    scan_fails_back {X = Entry} g.S.FrameSource.is_reliable old.table.source (g.S.FrameSource.failures old.table.source < g.S.FrameSource.failures new.table.source)
    (scan_list old.ended (g.S.FrameSource.bytes old.table.source) (λ all. reverse (reads_left h all old)))
    (most_left old) (g.S.FrameSource.bytes old.table.source) (λ all. reads_left h all old) (λ all. reads_left h all new) old.ended new.ended (Err c.in-Err.error) step.ended step.last
