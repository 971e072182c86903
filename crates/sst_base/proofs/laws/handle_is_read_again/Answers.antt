use Rattle.sst_base.specs.BlockHandleLaws.{handle_at-handle_bytes}
use Rattle.sst_base.proofs.laws.handle_is_read_again.Goals as goal

pub returns : goal.returns
returns c = handle_at-handle_bytes
