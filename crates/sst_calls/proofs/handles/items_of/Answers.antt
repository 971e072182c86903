use Rattle.std.proofs.Common.{inl, inr}
use Rattle.sst_calls.specs.Index.{HasEndKey}
use Rattle.sst_calls.proofs.Lists.Givens.{at_index}
use Rattle.sst_calls.proofs.handles.items_of.Goals as goal

pub returns-in-Err-clause-refused : goal.returns-in-Err-clause-refused
returns-in-Err-clause-refused c = elim c.in-Err.ensures.refused [
  | inl memory ↦ inl memory
  | inr bad ↦ inr (bad.0, λ all. bad.1 (at_index HasEndKey c.args.given.now c.loop-handle.handle-index _ c.loop-handle-test.true all))
]
