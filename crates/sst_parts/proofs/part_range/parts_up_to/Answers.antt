use Rattle.std.proofs.Common.{ap}
use Rattle.std.specs.Range.Bound.{bound_map}
use Rattle.sstable_blocks.specs.BoundLaws.{up_to_included, up_to_excluded, all_up_to}
use Rattle.sst_parts.proofs.part_range.parts_up_to.Goals as goal

pub returns-in-Included-clause-value : goal.returns-in-Included-clause-value
returns-in-Included-clause-value c = up_to_included _ _ _ _ _ _ c.position.ensures.value c.up_to.ensures.needle c.up_to.ensures.from (ap (bound_map (λ k. k.now)) c.in-Included.is)

pub returns-in-Excluded-clause-value : goal.returns-in-Excluded-clause-value
returns-in-Excluded-clause-value c = up_to_excluded _ _ _ _ _ _ c.position-in-Excluded.ensures.value c.below.ensures.needle c.below.ensures.from (ap (bound_map (λ k. k.now)) c.in-Excluded.is)

pub returns-in-Unbounded-clause-value : goal.returns-in-Unbounded-clause-value
returns-in-Unbounded-clause-value c = all_up_to c.args.index.now.items _ _ c.len.ensures.count (ap (bound_map (λ k. k.now)) c.in-Unbounded.is)
