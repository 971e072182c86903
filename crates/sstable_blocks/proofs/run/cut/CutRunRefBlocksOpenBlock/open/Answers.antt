use Rattle.std.proofs.Common.{refl, ap, arith, subst, sym, Ok, None, ◌<◌}
use Rattle.sstable_blocks.specs.BlockReading.{Opens, OpensPaid}
use Rattle.sstable_blocks.specs.Opened.{index_in}
use Rattle.sstable_blocks.specs.Readings.{run_reading}
use Rattle.sstable_blocks.specs.Scans.{left_in, run_interval}
use Rattle.sst_base.specs.Entry.{Entry}
use Rattle.sst_block_core.specs.Scan.{Scan}
use Rattle.sstable_blocks.specs.Tallies.{scan_tally, tally_all, tally_by, tally_of}
use Rattle.sstable_blocks.proofs.Scans.OpenCounts.{due_more, handle_last, opened_adds, run_paid}
use Rattle.sstable_blocks.proofs.Scans.EndReads.{all_true, opened_entries}
use Rattle.sstable_blocks.proofs.run.cut.CutRunRefBlocksOpenBlock.open.Goals as goal

pub returns-clause-opens : goal.returns-clause-opens
returns-clause-opens g c =
    let run = c.self.inside.run in
    let left = left_in c.open_at.new.opened in
    let inside = subst (λ v. c.args.index < run_reading.len v) (sym c.self.view_is) c.requires.inside in
    subst (λ v. Opens run_reading v c.args.index (Ok tt) (record { run = run; range = c.self.inside.bounds; steps = c.open_at.new.steps }) left) c.self.view_is (record {
      goes = record { run = refl; range = refl };
      errs = tt;
      all = all_true left;
      few = let n = c.count_of-count.ensures in let k = c.count_of-count.type_inv in omega (arith, n, k);
      exact = ap Ok (opened_entries run.bytes c.self.inside.bounds (index_in run.bytes run.handles.index) c.args.index left inside c.open_at.ensures.left);
    })

pub returns-clause-counts : goal.returns-clause-counts
returns-clause-counts g c =
    let s = c.self.inside in
    let old = tally_of (λ (b : Scan Entry). scan_tally b) c.args.block.now in
    let new = tally_of (λ (b : Scan Entry). scan_tally b) c.open_at.new.opened in
    let after = c.open_at.new.steps in
    let q = run_interval s.run in
    let counts = handle_last s.steps c.add_steps.new.steps after q c.args.index old.heads old.entries c.add_steps.ensures c.open_at.ensures.counts in
    let inside = subst (λ v. c.args.index < run_reading.len v) (sym c.self.view_is) c.requires.inside in
    subst (λ v. OpensPaid run_reading v c.args.index (tally_all scan_tally (tally_by v.steps) c.args.block.now None) (tally_all scan_tally (tally_by after) c.open_at.new.opened None)) c.self.view_is (record {
      adds = opened_adds s.steps after _ old new counts (omega arith);
      paid = run_paid q (index_in s.run.bytes s.run.handles.index) c.args.index inside s.steps after old new counts c.open_at.ensures.counts.most (due_more c.args.block.now) s.run.bytes c.open_at.ensures.cost;
    })
