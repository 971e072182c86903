use Rattle.std.proofs.Common.{refl, inr}
use Rattle.sstable_blocks.specs.Prelude.{Entry}
use Rattle.sst_calls.specs.Given.{IsGiven}
use Rattle.sst_calls.proofs.Lists.Givens.{at_index, each_given}
use Rattle.sst_calls.proofs.entries.items_of.Goals as goal

pub returns-in_default-item_of-clause-refused : goal.returns-in_default-item_of-clause-refused
returns-in_default-item_of-clause-refused c =
    inr (refl, λ items are. (let at = at_index (λ g. (e : Entry) × IsGiven g e) c.args.entries.now c.loop-entry.entry-index _ c.loop-entry-test.true (each_given c.args.entries.now items are) in c.in_default-item_of.ensures.refused refl at.0 at.1))
