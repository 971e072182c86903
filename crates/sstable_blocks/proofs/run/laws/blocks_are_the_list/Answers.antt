use Rattle.std.proofs.Common.{length}
use Rattle.sstable_blocks.proofs.Lists.Cuts.{cuts_left, joined-blocks_from, blocks_from-some}
use Rattle.sstable_blocks.proofs.run.laws.blocks_are_the_list.Goals as goal

pub returns : goal.returns
returns g c = λ items cuts some h.
    let left = cuts_left 0 (length items) cuts some h in
    (joined-blocks_from items 0 cuts left, blocks_from-some items 0 cuts left)
