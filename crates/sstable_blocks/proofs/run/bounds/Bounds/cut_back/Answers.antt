use Rattle.sstable_blocks.proofs.Scans.ScanCuts.{end_is, back_by, back_included, back_excluded, back_unbounded}
use Rattle.sstable_blocks.proofs.run.bounds.Bounds.cut_back.Goals as goal

pub returns-in-Included-clause-window : goal.returns-in-Included-clause-window
returns-in-Included-clause-window g c =
    back_by c.args.entries.now c.seek_upper.new.self _ _ (end_is (λ k. k.now) _ _ _ c.args.self.now c.self.view_is c.in-Included.is) (back_included c.args.entries.now c.seek_upper.new.self _ _ c.seek_upper.ensures.step)

pub returns-in-Excluded-clause-window : goal.returns-in-Excluded-clause-window
returns-in-Excluded-clause-window g c =
    back_by c.args.entries.now c.seek_upper_exclusive.new.self _ _ (end_is (λ k. k.now) _ _ _ c.args.self.now c.self.view_is c.in-Excluded.is) (back_excluded c.args.entries.now c.seek_upper_exclusive.new.self _ _ c.seek_upper_exclusive.ensures.step)

pub returns-in-Unbounded-clause-window : goal.returns-in-Unbounded-clause-window
returns-in-Unbounded-clause-window g c =
    back_by c.args.entries.now c.args.entries.now _ _ (end_is (λ k. k.now) _ _ _ c.args.self.now c.self.view_is c.in-Unbounded.is) (back_unbounded c.args.entries.now c.requires)
