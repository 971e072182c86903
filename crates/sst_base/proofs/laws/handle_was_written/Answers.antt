use Rattle.sst_base.specs.BlockHandleLaws.{handle_at_takes}
use Rattle.sst_base.proofs.laws.handle_was_written.Goals as goal

pub returns : goal.returns
returns c = handle_at_takes
