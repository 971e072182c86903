use Rattle.sstable_blocks.proofs.Scans.ScanCuts.{end_is}
use Rattle.sstable_blocks.specs.BoundLaws.{up_to_included, up_to_excluded, all_up_to}
use Rattle.sstable_blocks.proofs.run.bounds.Bounds.blocks_up_to.Goals as goal

pub returns-in-Included-clause-value : goal.returns-in-Included-clause-value
returns-in-Included-clause-value c = up_to_included _ _ _ _ _ _ c.position.ensures.value c.up_to.ensures.needle c.up_to.ensures.from (end_is (λ k. k.now) _ _ _ _ c.self.view_is c.in-Included.is)

pub returns-in-Excluded-clause-value : goal.returns-in-Excluded-clause-value
returns-in-Excluded-clause-value c = up_to_excluded _ _ _ _ _ _ c.position-in-Excluded.ensures.value c.below.ensures.needle c.below.ensures.from (end_is (λ k. k.now) _ _ _ _ c.self.view_is c.in-Excluded.is)

pub returns-in-Unbounded-clause-value : goal.returns-in-Unbounded-clause-value
returns-in-Unbounded-clause-value c = all_up_to c.args.index.now.items _ _ c.len.ensures.count (end_is (λ k. k.now) _ _ _ _ c.self.view_is c.in-Unbounded.is)
