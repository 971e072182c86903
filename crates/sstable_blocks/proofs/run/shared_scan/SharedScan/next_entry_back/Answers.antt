use Rattle.std.proofs.Common.{length, subst, ◌≤◌}
use Rattle.sstable_blocks.specs.Opened.{index_in}
use Rattle.sstable_blocks.specs.Scans.{MakesLast, left_in, run_interval}
use Rattle.sstable_blocks.specs.Sound.{RunParts}
use Rattle.sstable_blocks.specs.Tallies.{scan_tally, tally_all, tally_by, tally_of}
use Rattle.sstable_blocks.proofs.Scans.EndCounts.{adds_turned, counts_back}
use Rattle.sstable_blocks.proofs.Scans.EndReads.{made_last, run_back}
use Rattle.sstable_blocks.proofs.Scans.RunScans.{moved, moved_made_last, only_memory}
use Rattle.sstable_blocks.proofs.run.shared_scan.SharedScan.next_entry_back.Goals as goal

pub returns-clause-last : goal.returns-clause-last
returns-clause-last g c =
    let s = c.self.inside in
    let cut = s.cut in
    let hs = index_in cut.run.bytes cut.run.handles.index in
    let n = c.step_back.new in
    let t = c.step_back.ensures.taken in
    let counted = tally_all scan_tally (tally_by n.blocks.steps) n.far n.near in
    let inside = subst (λ (run : RunParts). n.between.hi ≤ length (index_in run.bytes run.handles.index)) t.goes.run t.ends.inside in
    let old = run_back cut.run.bytes cut.range hs (left_in s.front) (left_in s.back) s.middle.lo s.middle.hi c.self.invariant.0.inside in
    let new = run_back cut.run.bytes cut.range hs (left_in n.far) (left_in n.near) n.between.lo n.between.hi inside in
    let tally = tally_of scan_tally in
    let p = c.step_back.ensures.counts in
    subst (λ v. MakesLast v.scan c.step_back.result (moved v.scan n.far n.between.lo n.between.hi n.near counted n.blocks.run n.blocks.range)) c.self.view_is
    (moved_made_last _ n.far n.between.lo n.between.hi n.near counted n.blocks.run n.blocks.range t.goes.run t.goes.range c.step_back.result
    (made_last _ _ c.step_back.result _ (rw (old, new) at t.exact)) (only_memory c.step_back.result t.errs)
    (adds_turned (tally_by cut.steps) (tally s.front) (tally s.back) (tally_by n.blocks.steps) (tally n.far) (tally n.near) _ p.adds) (counts_back cut.run.bytes (run_interval cut.run) hs (tally_by cut.steps) (tally s.front) (tally s.back) (tally_by n.blocks.steps) (tally n.far) (tally n.near) s.middle.lo s.middle.hi n.between.lo n.between.hi _ c.self.invariant.0.inside inside p.paid))
