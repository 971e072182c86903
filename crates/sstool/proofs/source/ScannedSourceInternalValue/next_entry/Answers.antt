use Rattle.std.proofs.Common.{◌<◌, None}
use Rattle.sstable_blocks.specs.Prelude.{Entry}
use Rattle.sst_sources.specs.FailureLaws.{scan_fails_back, scan_no_more_back}
use Rattle.sstable_blocks.specs.RunReading.{hashes}
use Rattle.sst_parts.specs.AnyScans.{ended_in, left_in, most_in, source_of}
use Rattle.sstool.proofs.source.ScannedSourceInternalValue.next_entry.Goals as goal

pub returns-in-Backward-clause-cause : goal.returns-in-Backward-clause-cause
returns-in-Backward-clause-cause g c =
    let h = hashes g.H.BlockHash.hash64 g.H.BlockHash.hash128 in
    let f = g.S.FrameSource in
    let old = c.args.self.now.scan in
    let new = c.next_entry_back.new.self in
    let e = c.next_entry_back.ensures in
    scan_fails_back {X = Entry} f.is_reliable (source_of old) (f.failures (source_of old) < f.failures (source_of new)) None (most_in old) (f.bytes (source_of old)) (λ all. left_in h all old) (λ all. left_in h all new) (ended_in old) (ended_in new) c.next_entry_back.result e.ended e.last

pub returns-in-Backward-clause-no_more : goal.returns-in-Backward-clause-no_more
returns-in-Backward-clause-no_more g c =
    let h = hashes g.H.BlockHash.hash64 g.H.BlockHash.hash128 in
    let f = g.S.FrameSource in
    let old = c.args.self.now.scan in
    let new = c.next_entry_back.new.self in
    let e = c.next_entry_back.ensures in
    scan_no_more_back {X = Entry} (f.failures (source_of old) < f.failures (source_of new)) (f.is_reliable (source_of old)) None None (most_in old) (most_in new) (f.bytes (source_of old)) (f.bytes (source_of new))
    (λ all. left_in h all old) (λ all. left_in h all new) (ended_in old) (ended_in new) c.next_entry_back.result e.ended e.source.source.same e.last
