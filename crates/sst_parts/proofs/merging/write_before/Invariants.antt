use Rattle.std.proofs.Common.{◌≡◌, List, Some}
use Rattle.sstable_blocks.specs.Prelude.{Entry}
use Rattle.sstable_blocks.specs.RunReading.{hashes}
use Rattle.sst_sources.specs.Sources.{MeetsNoMore}
use Rattle.sst_parts.specs.PartMerges.{IsSameCopier, Merges}
use Rattle.sst_parts.proofs.merging.write_before.Given as goal

abbrev pub invariant-next : goal.invariant-next
invariant-next g l = record {
  merged : (ys : List Entry) → l.part.list ≡ Some ys → Merges (hashes g.H.BlockHash.hash64 g.H.BlockHash.hash128) l.fn.filler l.filler l.fn.newer.list l.newer.list ys ys;
  same : IsSameCopier g.W.Output.never_fails l.fn.filler l.filler;
  no_more : MeetsNoMore l.fn.newer l.newer;
}

abbrev pub decreases-next : goal.decreases-next
decreases-next g l = l.newer.most
