use Rattle.sstable_blocks.proofs.Scans.BlockTallies.{cut_costs}
use Rattle.sstable_blocks.proofs.Scans.ScanCuts.{cut_left}
use Rattle.sstable_blocks.proofs.run.bounds.Bounds.cut_iter.Goals as goal

pub returns-clause-left : goal.returns-clause-left
returns-clause-left c = cut_left c.args.self.now c.args.iter.now c.cut_iter_front.new.iter c.cut_iter_back.new.iter c.count_left-count.ensures.ordered c.requires.whole c.cut_iter_front.ensures.window c.cut_iter_back.ensures.window

pub returns-clause-cost : goal.returns-clause-cost
returns-clause-cost c = cut_costs c.args.self.now c.args.iter.now c.cut_iter_front.new.iter c.cut_iter_back.new.iter _ c.requires.fresh c.cut_iter_front.ensures.interval c.cut_iter_back.ensures.interval c.cut_iter_front.ensures.window c.cut_iter_back.ensures.window
    c.cut_iter_front.ensures.counts c.cut_iter_back.ensures.counts
