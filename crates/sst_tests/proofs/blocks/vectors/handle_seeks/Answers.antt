use Rattle.std.proofs.Common.{refl}
use Rattle.sst_block_core.specs.Window.{count_passed}
use Rattle.sst_tests.proofs.blocks.vectors.handle_seeks.Goals as goal

pub returns : goal.returns
unfolding count_passed
returns c = record { all = refl; two = refl; one = refl; zero = refl; upper = refl; past = refl }
