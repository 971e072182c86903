use Rattle.std.proofs.Common.{sym}
use Rattle.sst_program.proofs.Results.Outcomes.{fault-no_entries, fault-disorder, fault-ordered, some-from_test, none-from_test}
use Rattle.sst_program.proofs.order.fault_of.Goals as goal

pub returns-then-is_empty-clause-fault : goal.returns-then-is_empty-clause-fault
returns-then-is_empty-clause-fault c = sym (fault-no_entries c.args.items.now (none-from_test _ c.if-is_empty.ensures))

pub returns-in-Some-clause-fault : goal.returns-in-Some-clause-fault
returns-in-Some-clause-fault c = sym (fault-disorder c.args.items.now c.in-Some.index (some-from_test _ c.if-is_empty.ensures) c.in-Some.ensures.index)

pub returns-in-None-clause-fault : goal.returns-in-None-clause-fault
returns-in-None-clause-fault c = sym (fault-ordered c.args.items.now (some-from_test _ c.if-is_empty.ensures) c.in-None.ensures.index)
