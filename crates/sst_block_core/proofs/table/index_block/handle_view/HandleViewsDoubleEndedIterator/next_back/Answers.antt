use Rattle.std.proofs.Common.{◌∙◌, sym}
use Rattle.sst_block_core.specs.ParsedHandle.{parsed_handle, IsParsedHandle}
use Rattle.sst_block_core.specs.ListSteps.{took_last}
use Rattle.sst_block_core.proofs.table.index_block.handle_view.HandleViewsDoubleEndedIterator.next_back.Goals as goal

pub returns-clause-steps : goal.returns-clause-steps
returns-clause-steps c = sym c.self.view_is ∙ took_last parsed_handle IsParsedHandle _ _ _ _ c.self.invariant c.in-Some.ensures.steps
