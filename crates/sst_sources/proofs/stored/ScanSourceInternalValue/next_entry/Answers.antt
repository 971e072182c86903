use Rattle.std.proofs.Common.{◌<◌}
use Rattle.std.specs.Option.{option_map}
use Rattle.sstable_blocks.specs.Prelude.{Entry}
use Rattle.sstable_blocks.specs.RunReading.{hashes}
use Rattle.sstable_blocks.specs.Scans.{most_left, reads_left}
use Rattle.sst_sources.specs.FailureLaws.{scan_fails, scan_no_more}
use Rattle.sst_sources.specs.Stored.{read_errors, scan_list}
use Rattle.sst_sources.specs.StoredLaws.{scan_step}
use Rattle.sst_sources.proofs.stored.ScanSourceInternalValue.next_entry.Goals as goal

pub returns-clause-first : goal.returns-clause-first
returns-clause-first g c =
    let h = hashes g.H.BlockHash.hash64 g.H.BlockHash.hash128 in
    let old = c.args.self.now in
    let new = c.next_entry.new.self in
    let step = c.next_entry.ensures in
    scan_step (g.S.FrameSource.failures old.table.source < g.S.FrameSource.failures new.table.source) (g.S.FrameSource.is_reliable old.table.source) (g.S.FrameSource.bytes old.table.source) (g.S.FrameSource.bytes new.table.source)
    (λ all. reads_left h all old) (λ all. reads_left h all new) old.ended new.ended (most_left old) (most_left new)
    (option_map (λ all. read_errors (reads_left h all old)) (g.S.FrameSource.bytes old.table.source)) (option_map (λ all. read_errors (reads_left h all new)) (g.S.FrameSource.bytes new.table.source))
    c.next_entry.result step.ended step.source.source.same step.first step.fewer

pub returns-clause-cause : goal.returns-clause-cause
returns-clause-cause g c =
    let h = hashes g.H.BlockHash.hash64 g.H.BlockHash.hash128 in
    let old = c.args.self.now in
    let new = c.next_entry.new.self in
    let step = c.next_entry.ensures in
    scan_fails {X = Entry} g.S.FrameSource.is_reliable old.table.source (g.S.FrameSource.failures old.table.source < g.S.FrameSource.failures new.table.source)
    (scan_list old.ended (g.S.FrameSource.bytes old.table.source) (λ all. reads_left h all old)) (most_left old) (g.S.FrameSource.bytes old.table.source)
    (λ all. reads_left h all old) (λ all. reads_left h all new) old.ended new.ended c.next_entry.result step.ended step.first

pub returns-clause-no_more : goal.returns-clause-no_more
returns-clause-no_more g c =
    let h = hashes g.H.BlockHash.hash64 g.H.BlockHash.hash128 in
    let old = c.args.self.now in
    let new = c.next_entry.new.self in
    let step = c.next_entry.ensures in
    scan_no_more {X = Entry} (g.S.FrameSource.failures old.table.source < g.S.FrameSource.failures new.table.source) (g.S.FrameSource.is_reliable old.table.source)
    (scan_list old.ended (g.S.FrameSource.bytes old.table.source) (λ all. reads_left h all old)) (scan_list new.ended (g.S.FrameSource.bytes new.table.source) (λ all. reads_left h all new)) (most_left old) (most_left new) (g.S.FrameSource.bytes old.table.source) (g.S.FrameSource.bytes new.table.source)
    (λ all. reads_left h all old) (λ all. reads_left h all new) old.ended new.ended c.next_entry.result step.ended step.source.source.same step.first
