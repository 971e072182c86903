use Rattle.std.proofs.Common.{refl}
use Rattle.sst_block_core.specs.Window.{first_match}
use Rattle.sst_tests.proofs.blocks.vectors.first_matches.Goals as goal

pub returns : goal.returns
unfolding first_match
returns c = record { newest = refl; older = refl; oldest = refl; absent = refl; largest = refl }
