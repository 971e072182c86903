use Rattle.std.proofs.Common.{refl}
use Rattle.sst_block_core.specs.Window.{count_passed}
use Rattle.sst_tests.proofs.blocks.vectors.upper_and_past_seek.Goals as goal

pub returns : goal.returns
unfolding count_passed
returns c = refl
