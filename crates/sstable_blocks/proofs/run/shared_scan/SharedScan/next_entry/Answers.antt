use Rattle.std.proofs.Common.{length, subst, ◌≤◌}
use Rattle.sstable_blocks.specs.Opened.{index_in}
use Rattle.sstable_blocks.specs.Scans.{MakesFirst, left_in, run_interval}
use Rattle.sstable_blocks.specs.Sound.{RunParts}
use Rattle.sstable_blocks.specs.Tallies.{scan_tally, tally_all, tally_by}
use Rattle.sstable_blocks.proofs.Scans.EndCounts.{counts_front}
use Rattle.sstable_blocks.proofs.Scans.EndReads.{made_first, run_front}
use Rattle.sstable_blocks.proofs.Scans.RunScans.{moved, moved_made, only_memory}
use Rattle.sstable_blocks.proofs.run.shared_scan.SharedScan.next_entry.Goals as goal

pub returns-clause-first : goal.returns-clause-first
returns-clause-first g c =
    let s = c.self.inside in
    let cut = s.cut in
    let hs = index_in cut.run.bytes cut.run.handles.index in
    let n = c.step_front.new in
    let t = c.step_front.ensures.taken in
    let counted = tally_all scan_tally (tally_by n.blocks.steps) n.near n.far in
    let inside = subst (λ (run : RunParts). n.between.hi ≤ length (index_in run.bytes run.handles.index)) t.goes.run t.ends.inside in
    let old = run_front cut.run.bytes cut.range hs (left_in s.front) (left_in s.back) s.middle.lo s.middle.hi c.self.invariant.0.inside in
    let new = run_front cut.run.bytes cut.range hs (left_in n.near) (left_in n.far) n.between.lo n.between.hi inside in
    let p = c.step_front.ensures.counts in
    subst (λ v. MakesFirst v.scan c.step_front.result (moved v.scan n.near n.between.lo n.between.hi n.far counted n.blocks.run n.blocks.range)) c.self.view_is
    (moved_made _ n.near n.between.lo n.between.hi n.far counted n.blocks.run n.blocks.range t.goes.run t.goes.range c.step_front.result
    (made_first _ _ c.step_front.result _ (rw (old, new) at t.exact)) (only_memory c.step_front.result t.errs)
    p.pays.adds (counts_front cut.run.bytes (run_interval cut.run) hs _ _ s.middle.lo s.middle.hi n.between.lo n.between.hi _ c.self.invariant.0.inside inside p.pays.paid p.once))
