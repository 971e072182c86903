use Rattle.std.proofs.Common.{subst}
use Rattle.sstable_blocks.specs.Scans.{ScansFirst}
use Rattle.sstable_blocks.specs.Tallies.{scan_tally, tally_all, tally_by}
use Rattle.sstable_blocks.proofs.Scans.RunScans.{moved, moved_first}
use Rattle.sstable_blocks.proofs.run.run_scan.RunScanIterator.next.Goals as goal

pub returns-clause-steps : goal.returns-clause-steps
returns-clause-steps g c =
    let n = c.step_front.new in
    let e = c.step_front.ensures in
    let counted = tally_all scan_tally (tally_by n.cut.steps) n.front n.back in
    subst (λ v. ScansFirst v c.step_front.result (moved v n.front n.middle.lo n.middle.hi n.back counted n.cut.run n.cut.range)) c.self.view_is
    (moved_first _ n.front n.middle.lo n.middle.hi n.back counted n.cut.run n.cut.range e.same.0 e.same.1 c.step_front.result e.first e.looked e.counts)
