use Rattle.std.proofs.Common.{subst}
use Rattle.sstable_blocks.specs.Scans.{ScansLast}
use Rattle.sstable_blocks.specs.Tallies.{scan_tally, tally_all, tally_by}
use Rattle.sstable_blocks.proofs.Scans.RunScans.{moved, moved_last}
use Rattle.sstable_blocks.proofs.run.run_scan.RunScanDoubleEndedIterator.next_back.Goals as goal

pub returns-clause-steps : goal.returns-clause-steps
returns-clause-steps g c =
    let n = c.step_back.new in
    let e = c.step_back.ensures in
    let counted = tally_all scan_tally (tally_by n.cut.steps) n.front n.back in
    subst (λ v. ScansLast v c.step_back.result (moved v n.front n.middle.lo n.middle.hi n.back counted n.cut.run n.cut.range)) c.self.view_is
    (moved_last _ n.front n.middle.lo n.middle.hi n.back counted n.cut.run n.cut.range e.same.0 e.same.1 c.step_back.result e.last e.looked e.counts)
