use Rattle.std.proofs.Common.{◌∙◌, sym}
use Rattle.sst_block_core.specs.ParsedEntry.{entry_of, IsParsedEntry}
use Rattle.sst_block_core.specs.ListSteps.{took_some}
use Rattle.sst_block_core.specs.ListLaws.{one_fewer}
use Rattle.sst_block_core.proofs.table.data_block.entry_view.EntryViewsIterator.next.Goals as goal

pub returns-clause-steps : goal.returns-clause-steps
returns-clause-steps c = rw c.new.ensures (sym c.self.view_is ∙ took_some entry_of IsParsedEntry _ _ _ _ c.self.invariant c.in-Some.ensures.steps)

pub returns-clause-goes : goal.returns-clause-goes
returns-clause-goes c = record { on = λ _. (tt, tt, one_fewer _ _ _ (returns-clause-steps c)); keeps = tt; rests = λ _. tt }
