use Rattle.std.proofs.Common.{length, subst, sym, ◌≤◌}
use Rattle.sstable_blocks.specs.Opened.{index_in}
use Rattle.sstable_blocks.specs.Scans.{left_in, run_interval}
use Rattle.sst_block_core.specs.Scan.{Scan}
use Rattle.sst_base.specs.Entry.{Entry}
use Rattle.sstable_blocks.specs.Sound.{RunParts}
use Rattle.sstable_blocks.specs.Tallies.{scan_tally, tally_by, tally_of}
use Rattle.sstable_blocks.proofs.Scans.EndCounts.{adds_turned, counts_back}
use Rattle.sstable_blocks.proofs.Scans.EndReads.{gave_last, run_back}
use Rattle.sstable_blocks.proofs.run.run_scan.step_back.Goals as goal

pub returns-clause-last : goal.returns-clause-last
returns-clause-last g c =
    let cut = c.args.cut.now in
    let hs = index_in cut.run.bytes cut.run.handles.index in
    let n = c.step_back.new in
    let inside = subst (λ (run : RunParts). n.between.hi ≤ length (index_in run.bytes run.handles.index)) c.step_back.ensures.taken.goes.run c.step_back.ensures.taken.ends.inside in
    gave_last _ _ c.without_error.result
    (rw (sym (run_back cut.run.bytes cut.range hs (left_in c.args.front.now) (left_in c.args.back.now) c.args.middle.now.lo c.args.middle.now.hi c.requires.inside), sym (run_back cut.run.bytes cut.range hs (left_in n.far) (left_in n.near) n.between.lo n.between.hi inside))
    (rw c.without_error.ensures at c.step_back.ensures.taken.exact))

pub returns-clause-looked : goal.returns-clause-looked
returns-clause-looked g c =
    let n = c.step_back.new in
    let p = rw c.without_error.ensures at c.step_back.ensures.counts in
    let tally = tally_of (λ (b : Scan Entry). scan_tally b) in
    adds_turned (tally_by c.args.cut.now.steps) (tally c.args.front.now) (tally c.args.back.now) (tally_by n.blocks.steps) (tally n.far) (tally n.near) _ p.adds

pub returns-clause-counts : goal.returns-clause-counts
returns-clause-counts g c =
    let cut = c.args.cut.now in
    let hs = index_in cut.run.bytes cut.run.handles.index in
    let n = c.step_back.new in
    let inside = subst (λ (run : RunParts). n.between.hi ≤ length (index_in run.bytes run.handles.index)) c.step_back.ensures.taken.goes.run c.step_back.ensures.taken.ends.inside in
    let p = rw c.without_error.ensures at c.step_back.ensures.counts in
    let tally = tally_of (λ (b : Scan Entry). scan_tally b) in
    counts_back cut.run.bytes (run_interval cut.run) hs (tally_by cut.steps) (tally c.args.front.now) (tally c.args.back.now) (tally_by n.blocks.steps) (tally n.far) (tally n.near) c.args.middle.now.lo c.args.middle.now.hi n.between.lo n.between.hi _ c.requires.inside inside p.paid
