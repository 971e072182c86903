use Rattle.std.proofs.Common.{◌∙◌, Some, ap, refl, sym}
use Rattle.sst_base.specs.Entry.{Entry}
use Rattle.sst_block_core.specs.ListSteps.{took_some}
use Rattle.sst_block_core.specs.ParsedEntry.{entry_of, IsParsedEntry}
use Rattle.sst_block_core.specs.Scan.{Scan}
use Rattle.sst_block_core.specs.Window.{items_left}
use Rattle.sstable_blocks.proofs.Scans.EndReads.{made_taken}
use Rattle.sstable_blocks.proofs.run.shared_scan.SharedBlockEnded.next.Goals.{in-Ok, in-Err}
use Rattle.sstable_blocks.proofs.run.shared_scan.SharedBlockEnded.next.Goals as goal

pub returns-clause-taken : goal.returns-clause-taken
returns-clause-taken c =
    let x = entry_of c.self.inside.payload c.in-Some.item in
    made_taken (items_left c.args.self.now.window) (items_left c.next.new.self.window) x c.match-materialize.result
    (ap (λ (s : Scan Entry). items_left s.window) (sym c.self.view_is) ∙ took_some entry_of IsParsedEntry _ _ c.self.inside.payload c.in-Some.item c.self.invariant c.in-Some.ensures.steps)
    (elim c.match-materialize.branch [
      | in-Ok w ↦ rw w.result-is (ap (λ y. Some y) w.in-Ok.ensures.ok)
      | in-Err w ↦ rw w.result-is refl
    ])
