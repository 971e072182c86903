use Rattle.std.proofs.Common.{◌<◌}
use Rattle.std.specs.Option.{option_map}
use Rattle.sstable_blocks.specs.Prelude.{Entry}
use Rattle.sstable_blocks.specs.RunReading.{hashes}
use Rattle.sst_sources.specs.FailureLaws.{scan_fails, scan_no_more}
use Rattle.sst_sources.specs.Stored.{read_errors, scan_list}
use Rattle.sst_sources.specs.StoredLaws.{scan_step}
use Rattle.sst_parts.specs.PartScans.{parts_left}
use Rattle.sst_parts.proofs.stored.PartedScanSourceInternalValue.next_entry.Goals as goal

pub returns-clause-first : goal.returns-clause-first
returns-clause-first g c =
    let h = hashes g.H.BlockHash.hash64 g.H.BlockHash.hash128 in
    let f = g.S.FrameSource in
    let old = c.args.self.now in
    let new = c.next_entry.new.self in
    let step = c.next_entry.ensures in
    scan_step (f.failures old.table.source < f.failures new.table.source) (f.is_reliable old.table.source) (f.bytes old.table.source) (f.bytes new.table.source)
    (λ all. parts_left h all old) (λ all. parts_left h all new) old.ended new.ended old.most new.most
    (option_map (λ all. read_errors (parts_left h all old)) (f.bytes old.table.source)) (option_map (λ all. read_errors (parts_left h all new)) (f.bytes new.table.source))
    c.next_entry.result step.ended step.source.source.same step.first step.fewer

pub returns-clause-cause : goal.returns-clause-cause
returns-clause-cause g c =
    let h = hashes g.H.BlockHash.hash64 g.H.BlockHash.hash128 in
    let f = g.S.FrameSource in
    let old = c.args.self.now in
    let new = c.next_entry.new.self in
    let step = c.next_entry.ensures in
    scan_fails {X = Entry} f.is_reliable old.table.source (f.failures old.table.source < f.failures new.table.source)
    (scan_list old.ended (f.bytes old.table.source) (λ all. parts_left h all old)) old.most (f.bytes old.table.source)
    (λ all. parts_left h all old) (λ all. parts_left h all new) old.ended new.ended c.next_entry.result step.ended step.first

pub returns-clause-no_more : goal.returns-clause-no_more
returns-clause-no_more g c =
    let h = hashes g.H.BlockHash.hash64 g.H.BlockHash.hash128 in
    let f = g.S.FrameSource in
    let old = c.args.self.now in
    let new = c.next_entry.new.self in
    let step = c.next_entry.ensures in
    scan_no_more {X = Entry} (f.failures old.table.source < f.failures new.table.source) (f.is_reliable old.table.source)
    (scan_list old.ended (f.bytes old.table.source) (λ all. parts_left h all old)) (scan_list new.ended (f.bytes new.table.source) (λ all. parts_left h all new)) old.most new.most (f.bytes old.table.source) (f.bytes new.table.source)
    (λ all. parts_left h all old) (λ all. parts_left h all new) old.ended new.ended c.next_entry.result step.ended step.source.source.same step.first
