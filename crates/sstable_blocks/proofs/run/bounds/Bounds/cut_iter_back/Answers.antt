use Rattle.sstable_blocks.proofs.Scans.ScanCuts.{end_is, back_by, back_included, back_excluded, back_unbounded}
use Rattle.sstable_blocks.proofs.run.bounds.Bounds.cut_iter_back.Goals as goal

pub returns-in-Included-clause-window : goal.returns-in-Included-clause-window
returns-in-Included-clause-window c =
    back_by c.args.iter.now c.seek_upper.new.self _ _ (end_is (λ k. k.now) _ _ _ c.args.self.now c.self.view_is c.in-Included.is) (back_included c.args.iter.now c.seek_upper.new.self _ _ c.seek_upper.ensures.step)

pub returns-in-Excluded-clause-window : goal.returns-in-Excluded-clause-window
returns-in-Excluded-clause-window c =
    back_by c.args.iter.now c.seek_upper_exclusive.new.self _ _ (end_is (λ k. k.now) _ _ _ c.args.self.now c.self.view_is c.in-Excluded.is) (back_excluded c.args.iter.now c.seek_upper_exclusive.new.self _ _ c.seek_upper_exclusive.ensures.step)

pub returns-in-Unbounded-clause-window : goal.returns-in-Unbounded-clause-window
returns-in-Unbounded-clause-window c =
    back_by c.args.iter.now c.args.iter.now _ _ (end_is (λ k. k.now) _ _ _ c.args.self.now c.self.view_is c.in-Unbounded.is) (back_unbounded c.args.iter.now c.requires)
