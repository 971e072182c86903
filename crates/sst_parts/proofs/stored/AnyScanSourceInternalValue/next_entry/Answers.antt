use Rattle.std.proofs.Common.{◌<◌}
use Rattle.std.specs.Option.{option_map}
use Rattle.sstable_blocks.specs.Prelude.{Entry}
use Rattle.sstable_blocks.specs.RunReading.{hashes}
use Rattle.sst_sources.specs.FailureLaws.{scan_fails, scan_no_more}
use Rattle.sst_sources.specs.Stored.{read_errors, scan_list}
use Rattle.sst_sources.specs.StoredLaws.{scan_step}
use Rattle.sst_parts.specs.AnyScans.{ended_in, left_in, most_in, source_of}
use Rattle.sst_parts.proofs.stored.AnyScanSourceInternalValue.next_entry.Goals as goal

pub returns-clause-first : goal.returns-clause-first
returns-clause-first g c =
    let h = hashes g.H.BlockHash.hash64 g.H.BlockHash.hash128 in
    let f = g.S.FrameSource in
    let old = c.args.self.now in
    let new = c.next_entry.new.self in
    let step = c.next_entry.ensures in
    scan_step (f.failures (source_of old) < f.failures (source_of new)) (f.is_reliable (source_of old)) (f.bytes (source_of old)) (f.bytes (source_of new))
    (λ all. left_in h all old) (λ all. left_in h all new) (ended_in old) (ended_in new) (most_in old) (most_in new)
    (option_map (λ all. read_errors (left_in h all old)) (f.bytes (source_of old))) (option_map (λ all. read_errors (left_in h all new)) (f.bytes (source_of new)))
    c.next_entry.result step.ended step.source.source.same step.first step.fewer

pub returns-clause-cause : goal.returns-clause-cause
returns-clause-cause g c =
    let h = hashes g.H.BlockHash.hash64 g.H.BlockHash.hash128 in
    let f = g.S.FrameSource in
    let old = c.args.self.now in
    let new = c.next_entry.new.self in
    let step = c.next_entry.ensures in
    scan_fails {X = Entry} f.is_reliable (source_of old) (f.failures (source_of old) < f.failures (source_of new))
    (scan_list (ended_in old) (f.bytes (source_of old)) (λ all. left_in h all old)) (most_in old) (f.bytes (source_of old))
    (λ all. left_in h all old) (λ all. left_in h all new) (ended_in old) (ended_in new) c.next_entry.result step.ended step.first

pub returns-clause-no_more : goal.returns-clause-no_more
returns-clause-no_more g c =
    let h = hashes g.H.BlockHash.hash64 g.H.BlockHash.hash128 in
    let f = g.S.FrameSource in
    let old = c.args.self.now in
    let new = c.next_entry.new.self in
    let step = c.next_entry.ensures in
    scan_no_more {X = Entry} (f.failures (source_of old) < f.failures (source_of new)) (f.is_reliable (source_of old))
    (scan_list (ended_in old) (f.bytes (source_of old)) (λ all. left_in h all old)) (scan_list (ended_in new) (f.bytes (source_of new)) (λ all. left_in h all new)) (most_in old) (most_in new) (f.bytes (source_of old)) (f.bytes (source_of new))
    (λ all. left_in h all old) (λ all. left_in h all new) (ended_in old) (ended_in new) c.next_entry.result step.ended step.source.source.same step.first
