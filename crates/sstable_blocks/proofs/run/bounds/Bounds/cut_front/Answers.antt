use Rattle.sstable_blocks.proofs.Scans.ScanCuts.{start_is, front_by, front_included, front_excluded, front_unbounded}
use Rattle.sstable_blocks.proofs.run.bounds.Bounds.cut_front.Goals as goal

pub returns-in-Included-clause-window : goal.returns-in-Included-clause-window
returns-in-Included-clause-window g c =
    front_by c.args.entries.now c.seek.new.self _ _ (start_is (λ k. k.now) _ _ _ c.args.self.now c.self.view_is c.in-Included.is) (front_included c.args.entries.now c.seek.new.self _ _ c.seek.ensures.step)

pub returns-in-Excluded-clause-window : goal.returns-in-Excluded-clause-window
returns-in-Excluded-clause-window g c =
    front_by c.args.entries.now c.seek_exclusive.new.self _ _ (start_is (λ k. k.now) _ _ _ c.args.self.now c.self.view_is c.in-Excluded.is) (front_excluded c.args.entries.now c.seek_exclusive.new.self _ _ c.seek_exclusive.ensures.step)

pub returns-in-Unbounded-clause-window : goal.returns-in-Unbounded-clause-window
returns-in-Unbounded-clause-window g c =
    front_by c.args.entries.now c.args.entries.now _ _ (start_is (λ k. k.now) _ _ _ c.args.self.now c.self.view_is c.in-Unbounded.is) (front_unbounded c.args.entries.now c.requires)
