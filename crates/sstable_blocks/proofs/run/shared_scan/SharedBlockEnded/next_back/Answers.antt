use Rattle.std.proofs.Common.{◌∙◌, Some, ap, refl, subst, sym}
use Rattle.sst_base.specs.Entry.{Entry}
use Rattle.sst_block_core.specs.ListSteps.{took_last}
use Rattle.sst_block_core.specs.ParsedEntry.{entry_of, IsParsedEntry}
use Rattle.sst_block_core.specs.Scan.{Scan}
use Rattle.sst_block_core.specs.Window.{items_left}
use Rattle.sstable_blocks.specs.Tallies.{AddsTaken, least_taken, most_taken, scan_tally}
use Rattle.sstable_blocks.proofs.Scans.BlockTallies.{made_view, view_back}
use Rattle.sstable_blocks.proofs.Scans.EndReads.{made_taken_last}
use Rattle.sstable_blocks.proofs.run.shared_scan.SharedBlockEnded.next_back.Goals.{in-Ok, in-Err}
use Rattle.sstable_blocks.proofs.run.shared_scan.SharedBlockEnded.next_back.Goals as goal

pub returns-clause-taken : goal.returns-clause-taken
returns-clause-taken c =
    let x = entry_of c.self.inside.payload c.in-Some.item in
    made_taken_last (items_left c.args.self.now.window) (items_left c.next_back.new.self.window) x c.match-materialize.result
    (ap (λ (s : Scan Entry). items_left s.window) (sym c.self.view_is) ∙ took_last entry_of IsParsedEntry _ _ c.self.inside.payload c.in-Some.item c.self.invariant c.in-Some.ensures.steps)
    (elim c.match-materialize.branch [
      | in-Ok w ↦ rw w.result-is (ap (λ y. Some y) w.in-Ok.ensures.ok)
      | in-Err w ↦ rw w.result-is refl
    ])

pub returns-clause-counts : goal.returns-clause-counts
returns-clause-counts c =
    let r = c.match-materialize.result in
    let x = entry_of c.self.inside.payload c.in-Some.item in
    subst (λ (s : Scan Entry). AddsTaken (scan_tally s) (scan_tally c.next_back.new.self) (least_taken r) (most_taken r)) c.self.view_is
    (made_view (scan_tally c.self.inside.iter) (scan_tally c.next_back.new.self) x r
    (elim c.match-materialize.branch [
      | in-Ok w ↦ rw w.result-is (ap (λ y. Some y) w.in-Ok.ensures.ok)
      | in-Err w ↦ rw w.result-is refl
    ])
    (view_back entry_of IsParsedEntry _ _ _ c.in-Some.ensures.steps))
