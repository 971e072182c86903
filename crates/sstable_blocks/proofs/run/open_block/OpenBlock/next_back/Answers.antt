use Rattle.std.proofs.Common.{◌∙◌, ap, subst, sym}
use Rattle.sst_base.specs.Entry.{Entry}
use Rattle.sst_block_core.specs.ParsedEntry.{entry_of, IsParsedEntry}
use Rattle.sst_block_core.specs.ListSteps.{took_last}
use Rattle.sst_block_core.specs.Scan.{Scan}
use Rattle.sst_block_core.specs.Window.{items_left}
use Rattle.sstable_blocks.specs.Tallies.{AddsTaken, scan_tally}
use Rattle.sstable_blocks.proofs.Scans.BlockTallies.{view_back}
use Rattle.sstable_blocks.proofs.run.open_block.OpenBlock.next_back.Goals as goal

pub returns-clause-last : goal.returns-clause-last
returns-clause-last c = rw c.new.ensures (ap (λ (s : Scan Entry). items_left s.window) (sym c.self.view_is) ∙ took_last entry_of IsParsedEntry _ _ _ _ c.self.invariant c.in-Some.ensures.steps)

pub returns-clause-counts : goal.returns-clause-counts
returns-clause-counts c = subst (λ (s : Scan Entry). AddsTaken (scan_tally s) (scan_tally c.next_back.new.self) 1 1) c.self.view_is (view_back entry_of IsParsedEntry _ _ _ c.in-Some.ensures.steps)
