use Rattle.sstable_blocks.specs.RunReading.{hashes}
use Rattle.sst_sources.specs.Sources.{MeetsNoMore}
use Rattle.sst_parts.specs.PartMerges.{IsSameCopier}
use Rattle.sst_parts.proofs.Merged.Steps.{WrittenSoFar}
use Rattle.sst_parts.proofs.merging.write_left.Given as goal

abbrev pub invariant-next : goal.invariant-next
invariant-next g l = record {
  written : WrittenSoFar (hashes g.H.BlockHash.hash64 g.H.BlockHash.hash128) l.fn.filler l.filler l.fn.newer.list l.newer.list;
  same : IsSameCopier g.W.Output.never_fails l.fn.filler l.filler;
  no_more : MeetsNoMore l.fn.newer l.newer;
}

abbrev pub decreases-next : goal.decreases-next
decreases-next g l = l.newer.most
