use Rattle.std.specs.Prelude.{slice_get, refl}
use Rattle.std.proofs.Common.{ap, inr}
use Rattle.sst_base.proofs.double_ended_peekable.DoubleEndedPeekable.next_if.Goals as goal

pub returns-clause-refused : goal.returns-clause-refused
returns-clause-refused g c = inr (c.in_ok-item.item, ap (λ items. slice_get items 0) c.in_ok-item.ensures.first, (_, c.if-func.ensures, refl))
