use Rattle.std.proofs.Common.{refl, arith, subst, sym, Ok, Err, Some, None, ◌<◌, length, [], List}
use Rattle.std.proofs.lemmas.Result.{err_from_is_err_and}
use Rattle.sst_base.specs.Entry.{Entry}
use Rattle.sst_block_core.specs.Window.{items_left}
use Rattle.sstable_blocks.specs.BlockReading.{Opens}
use Rattle.sstable_blocks.specs.Readings.{table_reading}
use Rattle.sstable_blocks.specs.RunReading.{hashes}
use Rattle.sstable_blocks.specs.BlockReading.{OpensPaid}
use Rattle.sstable_blocks.specs.Tallies.{scan_tally, tally_all, tally_by, tally_of}
use Rattle.sstable_blocks.proofs.Scans.EndReads.{table_opened, table_refused}
use Rattle.sstable_blocks.proofs.Scans.OpenCounts.{due_more, handle_first, opened_adds, refused_adds, refused_paid, table_paid}
use Rattle.sstable_blocks.proofs.run.cut.CutTableBlocksIntoEntries.open.Goals as goal

pub returns-clause-opens : goal.returns-clause-opens
returns-clause-opens g c =
    let h = hashes g.H.BlockHash.hash64 g.H.BlockHash.hash128 in
    let f = g.S.FrameSource in
    let s = c.self.inside in
    let e = c.in_ok-entries.ensures in
    let items = items_left c.in_ok-entries.entries.window in
    let inside = subst (λ v. c.args.index < length v.run.index) (sym c.self.view_is) c.requires.inside in
    subst (λ v. Opens (table_reading h f.bytes f.failures f.reads f.is_reliable) v c.args.index (Ok tt) (record { run = c.cut_block.new.table; range = s.bounds; steps = c.add_steps.new.steps }) items) c.self.view_is (record {
      goes = record {
        kept = e.kept;
        range = refl;
        source = record { same = e.source.same; failures_grow = e.source.failures_grow; kept = e.source.kept };
        more = e.source.asks;
      };
      errs = tt;
      all = e.all;
      few = let n = e.few in omega (arith, n);
      exact = table_opened h (f.bytes s.run.source) s.bounds s.run.index c.args.index items inside e.exact;
    })

pub returns-in_err-entries-clause-opens : goal.returns-in_err-entries-clause-opens
returns-in_err-entries-clause-opens g c =
    let h = hashes g.H.BlockHash.hash64 g.H.BlockHash.hash128 in
    let f = g.S.FrameSource in
    let s = c.self.inside in
    let e = c.in_err-entries.ensures in
    let inside = subst (λ v. c.args.index < length v.run.index) (sym c.self.view_is) c.requires.inside in
    let r = err_from_is_err_and c.from_residual.result c.from_residual.ensures.1 in
    let none : List Entry = [] in
    rw (r.1, r.2, c.requires.none) (subst (λ v. Opens (table_reading h f.bytes f.failures f.reads f.is_reliable) v c.args.index (Err c.in_err-entries.field-0.0) (record { run = c.cut_block.new.table; range = s.bounds; steps = c.cut_block.new.steps }) none) c.self.view_is (record {
      goes = record {
        kept = e.kept;
        range = refl;
        source = record { same = e.source.same; failures_grow = e.source.failures_grow; kept = e.source.kept };
        more = e.source.asks;
      };
      errs = e.source.io;
      all = tt;
      few = omega arith;
      exact = table_refused h (f.bytes s.run.source) s.bounds s.run.index c.args.index _ _ _ inside e.exact;
    }))

pub returns-clause-counts : goal.returns-clause-counts
returns-clause-counts g c =
    let h = hashes g.H.BlockHash.hash64 g.H.BlockHash.hash128 in
    let f = g.S.FrameSource in
    let s = c.self.inside in
    let e = c.in_ok-entries.ensures in
    let old = tally_of scan_tally c.args.block.now in
    let new = scan_tally c.in_ok-entries.entries in
    let after = c.add_steps.new.steps in
    let counts = handle_first s.steps c.cut_block.new.steps after s.run.interval c.args.index old.heads old.entries e.counts c.add_steps.ensures in
    let inside = subst (λ v. c.args.index < length v.run.index) (sym c.self.view_is) c.requires.inside in
    subst (λ v. OpensPaid (table_reading h f.bytes f.failures f.reads f.is_reliable) v c.args.index (tally_all scan_tally (tally_by v.steps) c.args.block.now None) (tally_all scan_tally (tally_by after) (Some c.in_ok-entries.entries) None)) c.self.view_is (record {
      adds = opened_adds s.steps after _ old new counts (omega arith);
      paid = table_paid s.run.interval s.run.index c.args.index inside s.steps after old new counts e.counts.most (due_more c.args.block.now) (f.bytes s.run.source) e.cost;
    })

pub returns-in_err-entries-clause-counts : goal.returns-in_err-entries-clause-counts
returns-in_err-entries-clause-counts g c =
    let h = hashes g.H.BlockHash.hash64 g.H.BlockHash.hash128 in
    let f = g.S.FrameSource in
    let s = c.self.inside in
    let old = tally_of scan_tally c.args.block.now in
    let after = c.cut_block.new.steps in
    let handle = c.in_err-entries.ensures.counts in
    let inside = subst (λ v. c.args.index < length v.run.index) (sym c.self.view_is) c.requires.inside in
    subst (λ v. OpensPaid (table_reading h f.bytes f.failures f.reads f.is_reliable) v c.args.index (tally_all scan_tally (tally_by v.steps) c.args.block.now None) (tally_all scan_tally (tally_by after) c.args.block.now None)) c.self.view_is (record {
      adds = refused_adds s.run.interval s.run.index c.args.index inside s.steps after old handle;
      paid = refused_paid s.run.interval s.run.index c.args.index inside s.steps after old handle (f.bytes s.run.source);
    })
