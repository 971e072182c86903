use Rattle.std.proofs.Common.{ap}
use Rattle.std.specs.Range.Bound.{bound_map}
use Rattle.sstable_blocks.specs.BoundLaws.{before_included, before_excluded, none_before}
use Rattle.sst_parts.proofs.part_range.parts_before.Goals as goal

pub returns-in-Included-clause-value : goal.returns-in-Included-clause-value
returns-in-Included-clause-value c = before_included _ _ _ _ _ _ c.position.ensures.value c.below.ensures.needle c.below.ensures.from (ap (bound_map (λ k. k.now)) c.in-Included.is)

pub returns-in-Excluded-clause-value : goal.returns-in-Excluded-clause-value
returns-in-Excluded-clause-value c = before_excluded _ _ _ _ _ _ c.position-in-Excluded.ensures.value c.up_to.ensures.needle c.up_to.ensures.from (ap (bound_map (λ k. k.now)) c.in-Excluded.is)

pub returns-in-Unbounded-clause-value : goal.returns-in-Unbounded-clause-value
returns-in-Unbounded-clause-value c = none_before c.args.index.now.items _ (ap (bound_map (λ k. k.now)) c.in-Unbounded.is)
