use Rattle.sstable_blocks.specs.RunReading.{hashes}
use Rattle.sstable_blocks.specs.TableCountLaws.{index_placed_ok}
use Rattle.sstable_blocks.proofs.run.place.RunPlace.index_block_from.Goals as goal

pub returns-clause-place : goal.returns-clause-place
returns-clause-place g c =
    let a = c.in_ok-block.ensures in
    index_placed_ok (hashes g.H.BlockHash.hash64 g.H.BlockHash.hash128) _ _ c.in_ok-block.block _ _ c.check_once.ensures.parts a.cells a.exact
