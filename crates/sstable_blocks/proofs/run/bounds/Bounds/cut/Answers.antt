use Rattle.std.proofs.Common.{sym, subst}
use Rattle.sstable_blocks.specs.Scans.{AllWithin}
use Rattle.sstable_blocks.proofs.Scans.ScanCuts.{cut_left}
use Rattle.sstable_blocks.proofs.Scans.BlockTallies.{cut_costs}
use Rattle.sstable_blocks.proofs.Scans.ScanSteps.{all_within}
use Rattle.sstable_blocks.proofs.run.bounds.Bounds.cut.Goals as goal

pub returns-clause-left : goal.returns-clause-left
returns-clause-left g c = cut_left c.args.self.now c.args.entries.now c.cut_front.new.entries c.cut_back.new.entries c.count_left-count.ensures.ordered c.requires.whole c.cut_front.ensures.window c.cut_back.ensures.window

pub returns-clause-all : goal.returns-clause-all
returns-clause-all g c = subst (AllWithin c.args.self.now) (sym (returns-clause-left g c)) (all_within c.args.self.now c.args.entries.now.window.list)

pub returns-clause-cost : goal.returns-clause-cost
returns-clause-cost g c = cut_costs c.args.self.now c.args.entries.now c.cut_front.new.entries c.cut_back.new.entries _ c.requires.fresh c.cut_front.ensures.interval c.cut_back.ensures.interval c.cut_front.ensures.window c.cut_back.ensures.window
    c.cut_front.ensures.counts c.cut_back.ensures.counts
