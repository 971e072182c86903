use Rattle.sstable_blocks.proofs.Scans.ScanCuts.{start_is}
use Rattle.sstable_blocks.specs.BoundLaws.{before_included, before_excluded, none_before}
use Rattle.sstable_blocks.proofs.run.bounds.Bounds.first_block.Goals as goal

pub returns-in-Included-clause-value : goal.returns-in-Included-clause-value
returns-in-Included-clause-value c = before_included _ _ _ _ _ _ c.position.ensures.value c.below.ensures.needle c.below.ensures.from (start_is (λ k. k.now) _ _ _ _ c.self.view_is c.in-Included.is)

pub returns-in-Excluded-clause-value : goal.returns-in-Excluded-clause-value
returns-in-Excluded-clause-value c = before_excluded _ _ _ _ _ _ c.position-in-Excluded.ensures.value c.up_to.ensures.needle c.up_to.ensures.from (start_is (λ k. k.now) _ _ _ _ c.self.view_is c.in-Excluded.is)

pub returns-in-Unbounded-clause-value : goal.returns-in-Unbounded-clause-value
returns-in-Unbounded-clause-value c = none_before c.args.index.now.items _ (start_is (λ k. k.now) _ _ _ _ c.self.view_is c.in-Unbounded.is)
