use Rattle.sst_calls.proofs.Lists.Compacting.{held_fails, held_safe, kept_safe}
use Rattle.sst_calls.proofs.compact.left_of.Goals as goal

pub returns-clause-errors : goal.returns-clause-errors
returns-clause-errors c =
    held_safe c.new-2.result c.new-3.result (kept_safe _ _ c.args.sources.items c.new.result c.new-2.result c.requires c.new.ensures c.new-2.ensures) c.new-3.ensures.no_more

pub returns-clause-cause : goal.returns-clause-cause
returns-clause-cause c =
    held_fails c.new-2.result c.new-3.result (kept_safe _ _ c.args.sources.items c.new.result c.new-2.result c.requires c.new.ensures c.new-2.ensures) c.new-3.ensures.cause
