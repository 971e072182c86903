use Rattle.std.proofs.Common.{refl}
use Rattle.sst_block_core.specs.Window.{count_passed}
use Rattle.sst_base.specs.Varint.{varint, varint_within}
use Rattle.sst_block_core.specs.Body.{body}
use Rattle.sst_block_core.specs.Entries.{full, truncated}
use Rattle.sst_tests.proofs.blocks.vectors.both_ends.Goals as goal

pub returns : goal.returns
unfolding count_passed varint varint_within body full truncated
returns c = record { two = refl; five = refl; upper_behind = refl; exclusive = refl; emptied = refl }
