use Rattle.sstable_blocks.proofs.Layouts.BlockHandles.{handles_ready}
use Rattle.sstable_blocks.proofs.run.laws.handles_are_ready.Goals as goal

pub returns : goal.returns
returns c = handles_ready
