use Rattle.sstable_blocks.specs.TableCountLaws.{check_not_io}
use Rattle.sst_parts.proofs.table.tops_from.Goals as goal

pub returns-clause-source : goal.returns-clause-source
returns-clause-source g c =
    let s = c.in_ok-block.ensures.source in
    record {
      same = s.same;
      failures_grow = s.failures_grow;
      kept = s.kept;
      io = check_not_io c.in_ok-block.block.payload _ _ (c.index_check_is_by_stages.ensures c.in_ok-block.block.payload) c.check.ensures.refused;
      asks = s.asks;
    }
