use Rattle.std.proofs.Common.{vec_len}
use Rattle.sstool.proofs.salvage.WholeBlocks.next_block.Given as goal

abbrev pub decreases-loop-handle : goal.decreases-loop-handle
decreases-loop-handle g l = vec_len l.self.handles
