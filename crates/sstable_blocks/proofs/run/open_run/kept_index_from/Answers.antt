use Rattle.sstable_blocks.specs.RunReading.{hashes}
use Rattle.sstable_blocks.specs.TableCountLaws.{index_placed_ok, check_not_io}
use Rattle.sstable_blocks.proofs.run.open_run.kept_index_from.Goals as goal

pub returns-clause-source : goal.returns-clause-source
returns-clause-source g c =
    let s = c.in_ok-block.ensures.source in
    record {
      same = s.same;
      failures_grow = s.failures_grow;
      kept = s.kept;
      io = check_not_io c.in_ok-block.block.payload _ _ (c.index_check_is_by_stages.ensures c.in_ok-block.block.payload) c.check.ensures.refused;
      asks = s.asks;
    }

pub returns-clause-place : goal.returns-clause-place
returns-clause-place g c =
    let a = c.in_ok-block.ensures in
    index_placed_ok (hashes g.H.BlockHash.hash64 g.H.BlockHash.hash128) _ _ c.in_ok-block.block _ _ c.check.ensures.parts a.cells a.exact
